-- A box of a node to which nothing has happened.
use Rattle.am_race_laws.proofs.Words.{◌≡◌, ℕ, ◌<◌, List, [], ◌∷◌, ◌++◌, length, Bool, true, false, None, if◌then◌else◌, sym, refl, ap, subst, arith}
use Rattle.am_race_laws.proofs.Words.{length-append, none-some, TableId, Rules, has, CoreFrontsAreInOrder, Record, RacePlan, Node, founder, stranger_node, first_node, IsEndOf}
use Rattle.am_race_laws.proofs.Words.{untrimmed_node_is_own_end, Place, Known, fresh, EachComesNext, world_after, IsLawfulRecord, terms_of, BoxKeepsNode, IsBox}

-- a node that nothing has happened to is its own end
record Begins (n : Node) : Type 0 where
  end : IsEndOf n n
  order : CoreFrontsAreInOrder n.core

by_case : (rules : Rules) (name : ℕ) (b : Bool) → Begins (if b then founder rules name else stranger_node rules name)
by_case rules name true = record {
  end = untrimmed_node_is_own_end (founder rules name) refl;
  order = record { kept = refl; let_go = omega arith; given = omega arith; accepted = omega arith };
}
by_case rules name false = record {
  end = untrimmed_node_is_own_end (stranger_node rules name) refl;
  order = record { kept = refl; let_go = omega arith; given = omega arith; accepted = omega arith };
}

keeps_first : (plan : RacePlan) (name : ℕ) (m : Node) → m ≡ first_node plan.founding name → BoxKeepsNode plan name [] m
unfolding world_after
keeps_first plan name m is =
    let b = by_case plan.founding name (has plan.founding.founders name) in
    subst (BoxKeepsNode plan name []) (sym is) (record { end = b.end; order = b.order })

no_record : (next : List Record → Record → Type 0) → EachComesNext next []
no_record next before rest r e =
    let l : length {A = Record} [] ≡ length (before ++ r ∷ rest) = ap length e in
    let m = length-append before (r ∷ rest) in
    absurd (omega arith)

pub box_of_new_node : (wire : TableId) (plan : RacePlan) (name : ℕ) (pass : Known) (m : Node) → name < 16 → m ≡ first_node plan.founding name
    → pass ≡ fresh wire (terms_of plan) (Place name)
    → IsBox wire plan name pass m 0 None false None
box_of_new_node wire plan name pass m low is new =
    subst (λ (p : Known). IsBox wire plan name p m 0 None false None) (sym new) (record {
      own = refl;
      terms = refl;
      keys = refl;
      place = low;
      lawful = no_record (IsLawfulRecord (terms_of plan));
      node = λ _. keeps_first plan name m is;
      cursor_ = λ _. refl;
      last_ = λ _. refl;
      stopped_ = λ _. refl;
      spent = λ e. absurd (none-some _ e);
    })
