use Rattle.std.proofs.Common.{◌-◌, get_or, sym, ap, ◌∙◌, refl, arith, rules}
use Rattle.cnf.specs.Tabled.{numbers_of}
use Rattle.cnf.proofs.Asked.{clause_past}
use Rattle.cnf.proofs.Cuts.{clause_tabled, clause_none, numbers_cut}
use Rattle.cnf.proofs.table.ClauseTable.clause.Goals as goal
use Rattle.cnf.proofs.table.ClauseTable.clause.Goals.{then-i-eq0-via-then-i-eq0, then-i-eq0-via-else-i-eq0+then-k-gt-LAST_CLAUSE, then-i-eq0-via-else-i-eq0+else-k-gt-LAST_CLAUSE+then-i-self}

pub returns-then-i-eq0 : goal.returns-then-i-eq0
returns-then-i-eq0 c =
    elim c.then-i-eq0.branch [ then-i-eq0-via-then-i-eq0 w ↦ search rules | then-i-eq0-via-else-i-eq0+then-k-gt-LAST_CLAUSE w ↦ sym (clause_past _ _ w.if-k-gt-LAST_CLAUSE.true) | then-i-eq0-via-else-i-eq0+else-k-gt-LAST_CLAUSE+then-i-self w ↦ sym (clause_none _ _ _ w.if-i-self.true) ]

pub returns : goal.returns
returns c =
    let s = c.args.self.now in
    let k = c.args.k.0 in
    ap (λ x. numbers_of x.now) c.unwrap_or.ensures
    ∙ numbers_cut s.literals.now (get_or s.starts.now (k - 1) 0) (get_or s.starts.now k 0) c.get.result _ refl c.get.ensures.lookup
    ∙ sym (clause_tabled (numbers_of s.literals.now) s.starts.now k (omega arith) (omega arith) (omega arith))
