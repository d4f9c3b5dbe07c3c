-- The kinds of words, and their codes.
use Rattle.std.specs.Prelude.{◌≡◌, ℕ, ◌≢◌, Result, MatchResult}
use Rattle.words.specs.declared.kind.Kind.{Kind}
use Rattle.words.specs.declared.kind.Kind.TheVariants.{Board, Given, Less, Claim, End}
use Rattle.words.specs.declared.kind.UnknownKind.{UnknownKind}

-- the number that stands for a kind
abbrev pub code_of : Kind → ℕ
code_of Board = 1
code_of Given = 2
code_of Less = 3
code_of Claim = 5
code_of End = 15

-- the result is the kind with this code, or an error with a code that no kind has
abbrev pub Decodes : ℕ → Result Kind UnknownKind → Type 0
Decodes code r = MatchResult r (λ kind. code ≡ code_of kind) (λ e. (e.0 ≡ code) × ((kind : Kind) → code ≢ code_of kind))
