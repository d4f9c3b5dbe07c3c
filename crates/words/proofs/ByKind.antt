-- A word of no known kind says nothing.
use Rattle.std.proofs.Common.{◌≡◌, ℕ, ◌≢◌, None, Ok, Err, Result, arith}
use Rattle.std.specs.Result.{result_ok}
use Rattle.std.proofs.lemmas.Bool.{ne_eqb}
use Rattle.words.specs.declared.kind.Kind.{Kind}
use Rattle.words.specs.declared.kind.Kind.TheVariants.{Board, Given, Less, Claim, End}
use Rattle.words.specs.declared.kind.UnknownKind.{UnknownKind}
use Rattle.words.specs.Kinds.{code_of, Decodes}
use Rattle.words.specs.Layouts.{kind_of, decoded}

pub other_kind : (w : ℕ) → ((kind : Kind) → kind_of w ≢ code_of kind) → decoded w ≡ None
unfolding decoded
other_kind w other =
    rw (ne_eqb (kind_of w) 1 (other Board), ne_eqb (kind_of w) 2 (other Given), ne_eqb (kind_of w) 3 (other Less), ne_eqb (kind_of w) 5 (other Claim), ne_eqb (kind_of w) 15 (other End))

pub unknown_kind : (w : ℕ) (r : Result Kind UnknownKind) → Decodes (kind_of w) r → result_ok r ≡ None → decoded w ≡ None
unknown_kind w (Ok kind) d n = let z : ◌≡◌ {A = ℕ} 0 1 = cc in absurd (omega arith)
unknown_kind w (Err e) d n = other_kind w d.1
