-- Reading under way: what is left gives the answer, and few words have been read.
use Rattle.std.proofs.Common.{◌≡◌, ℕ, suc, ◌+◌, ◌<◌, ◌≤◌, true, false, cond, List, length, get_or, drop, Some, None, Ok, Err, sym, refl, ap, ◌∙◌, arith}
use Rattle.std.proofs.lemmas.Nat.{mul-le}
use Rattle.std.proofs.lemmas.List.{at_drop_more, at_drop_all, length_push}
use Rattle.cnf.specs.declared.fault.Fault.{Fault}
use Rattle.cnf.specs.declared.fault.Fault.TheVariants.{WordForm, EndWord}
use Rattle.cnf.specs.Faults.{accepted}
use Rattle.futoshiki.specs.declared.side.Side.{Side}
use Rattle.words.specs.declared.item.Item.{Item}
use Rattle.words.specs.declared.item.Item.TheVariants.{Board, Given, Claim, Less, End}
use Rattle.words.specs.Layouts.{decoded}
use Rattle.puzzle.specs.Reading.{Tables, State, with_item, next_state, item_answer, read_on, read_item, read_from, opened}
use Rattle.puzzle.specs.Accepted.{Registered}
use Rattle.puzzle.proofs.Admission.{Admissible, admissible}
use Rattle.puzzle.proofs.Gathered.{registered_more}
use Rattle.puzzle.proofs.Whole.{blank_registered}
use Rattle.puzzle.proofs.Few.{few_entries, few_signs}

-- how many words after the first gave what has been read
abbrev pub words_taken : State → ℕ
words_taken st = length st.so_far.givens + length st.so_far.claims + length st.so_far.signs + cond st.after_end 1 0

-- after i of the words after the first, of a list whose board has side N
pub record UnderWay (t : Tables) (ws : List ℕ) (N : ℕ) (st : State) (i : ℕ) : Type 0 where
  pub left : read_from t st (i + 2) (drop i ws) ≡ read_from t (opened N) 2 ws
  pub size_is : st.so_far.size ≡ N
  pub registered : Registered st.so_far
  pub counted : i ≡ words_taken st

module _ {t : Tables} {ws : List ℕ} (side : Side) where
  pub begins : UnderWay t ws side.n (opened side.n) 0
  begins = record { left = refl; size_is = refl; registered = blank_registered side.n; counted = refl }

  module _ {st : State} {i : ℕ} (u : UnderWay t ws side.n st i) where
    -- a board has few cells and few pairs of them, so few words come before a fault or the end
    pub few_words : i ≤ 325
    few_words =
        let N = st.so_far.size in
        let high : N ≤ 9 = omega (arith, u.size_is, side.most) in
        let cells = mul-le N N 9 9 high high in
        let r = u.registered in
        let g = few_entries N st.so_far.givens r.givens_once r.givens_on in
        let c = few_entries N st.so_far.claims r.claims_once r.claims_on in
        let s = few_signs N (omega (arith, u.size_is, side.least)) st.so_far.signs r.signs_on r.sides r.signs_once in
        let last : cond st.after_end 1 0 ≤ 1 = elim st.after_end as (λ b. cond b 1 0 ≤ 1) [ true ↦ omega arith | false ↦ omega arith ] in
        omega (arith, u.counted)

    -- the answer that is still to come
    next_word : i < length ws → read_item (decoded (get_or ws i 0)) (i + 2) (item_answer t st (i + 2)) (λ it. read_from t (next_state st it) (suc (i + 2)) (drop (i + 1) ws)) ≡ read_from t (opened side.n) 2 ws
    unfolding read_from
    next_word h = sym (at_drop_more (read_from t st (i + 2)) ws i 0 h) ∙ u.left

    says_item : i < length ws → (it : Item) → decoded (get_or ws i 0) ≡ Some it → read_on (item_answer t st (i + 2) it) (read_from t (next_state st it) (suc (i + 2)) (drop (i + 1) ws)) ≡ read_from t (opened side.n) 2 ws
    says_item h it e = rw e at (next_word h)

    pub no_item : i < length ws → decoded (get_or ws i 0) ≡ None → Err (WordForm (i + 2)) ≡ read_from t (opened side.n) 2 ws
    no_item h e = rw e at (next_word h)

    pub turned_away : i < length ws → (it : Item) → decoded (get_or ws i 0) ≡ Some it → (f : Fault) → item_answer t st (i + 2) it ≡ Err f → Err f ≡ read_from t (opened side.n) 2 ws
    turned_away h it e f a = rw a at (says_item h it e)

    one_more : (it : Item) → Admissible t st.so_far it → st.after_end ≡ false → words_taken (next_state st it) ≡ 1 + words_taken st
    one_more (Board p M) a o = absurd a.later
    one_more (Given e) a o = rw o (omega (arith, length_push st.so_far.givens e))
    one_more (Claim e) a o = rw o (omega (arith, length_push st.so_far.claims e))
    one_more (Less s) a o = rw o (omega (arith, length_push st.so_far.signs s))
    one_more End a o = rw o (omega arith)

    same_size : (it : Item) → (with_item st.so_far it).size ≡ st.so_far.size
    same_size (Board p M) = refl
    same_size (Given e) = refl
    same_size (Claim e) = refl
    same_size (Less s) = refl
    same_size End = refl

    pub goes_on : i < length ws → (it : Item) → decoded (get_or ws i 0) ≡ Some it → item_answer t st (i + 2) it ≡ accepted → UnderWay t ws side.n (next_state st it) (i + 1)
    goes_on h it e a =
        let d = admissible t st (i + 2) it (omega (arith, u.size_is, side.least)) a in
        let k : i + 1 + 2 ≡ suc (i + 2) = omega arith in
        record {
          left = ap (λ p. read_from t (next_state st it) p (drop (i + 1) ws)) k ∙ rw a at (says_item h it e);
          size_is = same_size it ∙ u.size_is;
          registered = registered_more t st.so_far it d.1 u.registered;
          counted = omega (arith, one_more it d.1 d.0, u.counted);
        }

    -- no word is left
    pub all_read : length ws ≤ i → cond st.after_end (Ok st.so_far) (Err (EndWord (i + 2))) ≡ read_from t (opened side.n) 2 ws
    unfolding read_from
    all_read h = sym (at_drop_all (read_from t st (i + 2)) ws i h) ∙ u.left
