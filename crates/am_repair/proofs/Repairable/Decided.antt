-- Who steps decides a view in it, and is its sequencer: what it trimmed as it decided is what its members have taken.
use Rattle.am_repair.proofs.Repairable.RepairedWords.{eqb-true, ◌≡◌, ℕ, ◌<◌, ◌≤◌, ◌==◌, max, true, false, List, [], ◌∷◌, ◌++◌, Some, slice_get, refl, sym, ap, ◌∙◌}
use Rattle.am_repair.proofs.Repairable.RepairedWords.{subst, arith, Stamp, Rules, stamp_is_less, Packet, Letter, Event, key_of_stamp, Group, Node, view, acts_in_its_view, is_sequencer, StepResult}
use Rattle.am_repair.proofs.Repairable.RepairedWords.{World, run, split_on_bool, both_of_and, Cause, acting_name, item_of_index_has_property, NotedViewStandsInLog, PacketSays, stamps_of_equal_keys, parts_of_one_step, one_step_grows_group, known_is_taken}
use Rattle.am_repair.proofs.Repairable.Trims.{LetterHasLowBase, OtherHasTakenBase, took, SequencerTrimmedTaken, TrimStepWithGroup, LetterWasSentByStep, before, now, world_before_keeps_laws, world_after_keeps_laws, name_of_node_after, letters_after_step_are_sent, view_of_piece_is_decided}
use Rattle.am_repair.proofs.Repairable.Mailed.{said_letter_has_low_base}

module _ (rules : Rules) (events : List Event) (e : Event) (c : Cause) (step : StepResult) (s t : Group) (x : TrimStepWithGroup rules events e c step s t)
    (leads : is_sequencer step.node ≡ true)
    (above : stamp_is_less (view ((run rules events).nodes (acting_name (run rules events) e))) (view step.node) ≡ true) where
  open parts_of_one_step rules events e step use {w, i, m, n, v}
  open one_step_grows_group x.goes use {few as small_i, node_v as at_i, others_v, run_v}

  own : (view n).by ≡ i
  own =
      let both = both_of_and (acts_in_its_view n) ((view n).by == n.core.who) leads in
      eqb-true (view n).by n.core.who both.1 ∙ name_of_node_after rules events e c step s t x

  -- before, nobody had decided that view
  is_new : s.views.decided (key_of_stamp (view n)) ≡ true → ⊥
  is_new d =
      let was = x.old.stands.views.decided (key_of_stamp (view n)) d in
      let noted = item_of_index_has_property (NotedViewStandsInLog w.nodes) w.views was.index was.view (world_before_keeps_laws rules events e c step s t x).blanks.base.noted was.there in
      let same = stamps_of_equal_keys was.view.stamp (view n) noted.by (subst (λ j. j < 256) (sym own) small_i) was.is in
      let by : was.view.stamp.by ≡ i = ap (λ (u : Stamp). u.by) same ∙ own in
      let low : stamp_is_less (view m) (view n) ≡ false = ap (stamp_is_less (view m)) (sym same)
      ∙ subst (λ (y : Node). stamp_is_less (view y) was.view.stamp ≡ false) (ap w.nodes by) noted.low in
      cc

  -- so no letter told it
  old_low : (k : ℕ) (l : Letter) (low : ℕ) → slice_get w.letters k ≡ Some l → (to : List ℕ) (p : Packet) → p ≡ l.packet → PacketSays w s to p
      → LetterHasLowBase i (view n) low p
  old_low k l low at to (Packet.Piece from u base number y) is says = λ mine same. absurd (is_new (ap (λ (z : Stamp). s.views.decided (key_of_stamp z)) (sym same)
      ∙ view_of_piece_is_decided rules events e c step s t x from u number y (subst (λ j. j < 256) (sym mine) small_i) (ap (λ (z : Stamp). z.by) same ∙ own ∙ sym mine)
      says.1))
  old_low k l low at to (Packet.Result from base number u) is says = λ mine same. absurd (is_new
      (ap (λ (z : Stamp). s.views.decided (key_of_stamp z)) (sym same) ∙ (says.1 (ap (λ (z : Stamp). z.by) same ∙ own ∙ sym mine)).decided))
  old_low k l low at to (Packet.Welcome from u base join image) is says = λ mine same. absurd (is_new
      (ap (λ (z : Stamp). s.views.decided (key_of_stamp z)) (sym same) ∙ x.trims.welcomes k l from u base join image at (sym is)))
  old_low k l low at to _ is says = tt

  letter_low : (l : Letter) → LetterWasSentByStep w m n c l → LetterHasLowBase i (view n) n.core.base l.packet
  letter_low l (before k at) = old_low k l n.core.base at l.to l.packet refl (x.old.letters k l at)
  letter_low l (now says) = said_letter_has_low_base m n c i (view n) n.core.base l.to l.packet (omega arith) says.says

  -- what is known was taken, or is no more than the base
  known : (j : ℕ) → j < 256 → (n.reports j).taken ≤ max n.core.base (v.nodes j).core.taken
  known j few_j =
      let all = subst (λ (u : World). ((u.nodes i).reports j).taken ≤ max (u.nodes i).core.base (u.nodes j).core.taken) run_v
      (known_is_taken rules (events ++ e ∷ []) i j x.may small_i few_j) in
      subst (λ (y : Node). (y.reports j).taken ≤ max y.core.base (v.nodes j).core.taken) at_i all

  acting : (j : ℕ) → j < 256 → acts_in_its_view (v.nodes j) ≡ true → view (v.nodes j) ≡ view n → n.core.base ≤ (v.nodes j).core.taken
  acting j few_j act same = split_on_bool (j == i)
      (λ u.
      let is : v.nodes j ≡ n = ap v.nodes (eqb-true j i u) ∙ at_i in
      let b = ((world_after_keeps_laws rules events e c step s t x).each j few_j).fronts.base in
      let z = ap (λ (y : Node). y.core.base) is in
      omega arith)
      (λ f.
      let is = others_v j f in
      let d = x.trims.decided j few_j (ap acts_in_its_view (sym is) ∙ act) in
      absurd (is_new (ap (λ (z : Stamp). s.views.decided (key_of_stamp z)) (sym same) ∙ ap (λ (y : Node). s.views.decided (key_of_stamp (view y))) is ∙ d)))

  pub decided_view_settles : SequencerTrimmedTaken v i
  decided_view_settles = record {
    low = n.core.base;
    base = let z = ap (λ (y : Node). y.core.base) at_i in omega arith;
    acting = λ j few_j act same. acting j few_j act (same ∙ ap view at_i);
    letters = λ k l at. subst (λ u. LetterHasLowBase i u n.core.base l.packet) (ap view (sym at_i)) (letter_low l (letters_after_step_are_sent rules events e c step s t x k l at));
    knows = λ j few_j other. subst (λ y. OtherHasTakenBase v n.core.base y j) (sym at_i) (took (known j few_j));
  }
