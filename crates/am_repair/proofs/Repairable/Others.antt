-- While another name steps, a sequencer that runs still trimmed no more than its members have taken.
use Rattle.am_repair.proofs.Repairable.RepairedWords.{item_at_gives_slice_get, eqb-true, number_equals_itself, ◌≡◌, either, ℕ, ◌<◌, ◌≤◌, ◌==◌, true, false, List, sym, ap, ◌∙◌, subst, arith}
use Rattle.am_repair.proofs.Repairable.RepairedWords.{Stamp, Rules, Letter, Event, Group, Node, view, acts_in_its_view, is_sequencer, has_log_by_status, StepResult, is_stopped, run, packet_heard_by_act}
use Rattle.am_repair.proofs.Repairable.RepairedWords.{split_on_bool, both_of_and, Cause, acting_name, WasSentTo, IsCause, parts_of_one_step, one_step_grows_group, BaseAndTakenRise, Packet}
use Rattle.am_repair.proofs.Repairable.Came.{CauseTellsView, by_piece, by_result, by_welcome, before as went_on, own, told_so}
use Rattle.am_repair.proofs.Repairable.Trims.{LetterHasLowBase, OtherHasTakenBase, took, joins, halts, SequencerTrimmedTaken, TrimStepWithGroup, LetterWasSentByStep, before, now, node_goes_along_rules, cause_heard_small_names, cause_heard_used_images, names_of_nodes_after, name_of_node_after, stopped_after_step_is_before}
use Rattle.am_repair.proofs.Repairable.Trims.{letters_after_step_are_sent, acting_after_step_came}
use Rattle.am_repair.proofs.Repairable.Began.{BeganByWelcome, list_begins_by_welcome_alone, node_rises_by_change}
use Rattle.am_repair.proofs.Repairable.Fresh.{WelcomeIsInLetters, welcome_stays_in_world}
use Rattle.am_repair.proofs.Repairable.Mailed.{said_letter_of_other_name, welcome_is_said_by_sequencer}
use Rattle.am_repair.proofs.Repairable.One.{one_sequencer_runs}

module _ (rules : Rules) (events : List Event) (e : Event) (c : Cause) (step : StepResult) (s t : Group) (x : TrimStepWithGroup rules events e c step s t)
    (q : ℕ) (few_q : q < 256) (other : (q == acting_name (run rules events) e) ≡ false) (leads : is_sequencer ((run rules events).nodes q) ≡ true)
    (runs_q : is_stopped (run rules events) q ≡ false) where
  open parts_of_one_step rules events e step use {w, i, m, n, v}
  open one_step_grows_group x.goes use {few, kept_t, node_v as at_i, others_v}

  at_q : v.nodes q ≡ w.nodes q
  at_q = others_v q other

  h : SequencerTrimmedTaken w q
  h = x.trims.settles q few_q leads runs_q

  up : BaseAndTakenRise m n
  up = node_rises_by_change rules m n (cause_heard_small_names rules events e c step s t x) (cause_heard_used_images rules events e c step s t x) x.effect.changes (node_goes_along_rules rules events e c step s t x)

  apart : i ≡ q → ⊥
  apart is = let z = ap (λ k. q == k) is ∙ number_equals_itself q in let y = other in cc

  own_q : (view (w.nodes q)).by ≡ q
  own_q =
      let both = both_of_and (acts_in_its_view (w.nodes q)) ((view (w.nodes q)).by == (w.nodes q).core.who) leads in
      eqb-true (view (w.nodes q)).by (w.nodes q).core.who both.1 ∙ ap (λ (y : Node). y.core.who) (sym at_q) ∙ names_of_nodes_after rules events e c step s t x q

  -- ---- who acts

  -- the base that a letter of the view tells
  told_low : (from : ℕ) (u : Stamp) (base : ℕ) → CauseTellsView c from u base → from ≡ q → u ≡ view (w.nodes q) → h.low ≤ base
  told_low from u base tells mine same = by_kind tells x.cause
    where
      by_kind : {d : Cause} → CauseTellsView d from u base → IsCause w i e.act d → h.low ≤ base
      by_kind (by_piece s_ v base_ number y) was =
          let sent : WasSentTo w i e.act (Packet.Piece s_ v base_ number y) = was in
          let at = item_at_gives_slice_get w.letters (packet_heard_by_act e.act) sent.letter sent.there in
          let low : LetterHasLowBase q (view (w.nodes q)) h.low (Packet.Piece s_ v base_ number y) = subst (LetterHasLowBase q (view (w.nodes q)) h.low) sent.is
          (h.letters at.0 sent.letter at.1) in
          low mine same
      by_kind (by_result s_ base_ number v) was =
          let sent : WasSentTo w i e.act (Packet.Result s_ base_ number v) = was in
          let at = item_at_gives_slice_get w.letters (packet_heard_by_act e.act) sent.letter sent.there in
          let low : LetterHasLowBase q (view (w.nodes q)) h.low (Packet.Result s_ base_ number v) =
          subst (LetterHasLowBase q (view (w.nodes q)) h.low) sent.is (h.letters at.0 sent.letter at.1) in
          low mine same
      by_kind (by_welcome s_ v base_ join image) was =
          let sent : WasSentTo w i e.act (Packet.Welcome s_ v base_ join image) = was in
          let at = item_at_gives_slice_get w.letters (packet_heard_by_act e.act) sent.letter sent.there in
          let low : LetterHasLowBase q (view (w.nodes q)) h.low (Packet.Welcome s_ v base_ join image) =
          subst (LetterHasLowBase q (view (w.nodes q)) h.low) sent.is (h.letters at.0 sent.letter at.1) in
          low mine same

  acting_i : acts_in_its_view n ≡ true → view n ≡ view (w.nodes q) → h.low ≤ n.core.taken
  acting_i act same = elim (acting_after_step_came rules events e c step s t x act) [
    | went_on was stays more ↦ let low = h.acting i few was (sym stays ∙ same) in omega arith
    | own mine above ↦ absurd (apart (sym (name_of_node_after rules events e c step s t x) ∙ sym mine ∙ ap (λ (u : Stamp). u.by) same ∙ own_q))
    | told_so from u base tells is by far low ↦
        let a = told_low from u base tells (sym by ∙ ap (λ (z : Stamp). z.by) (sym is ∙ same) ∙ own_q) (sym is ∙ same) in omega arith
  ]

  acting : (j : ℕ) → j < 256 → acts_in_its_view (v.nodes j) ≡ true → view (v.nodes j) ≡ view (w.nodes q) → h.low ≤ (v.nodes j).core.taken
  acting j few_j act same = split_on_bool (j == i)
      (λ u.
      let is : v.nodes j ≡ n = ap v.nodes (eqb-true j i u) ∙ at_i in
      subst (λ (y : Node). h.low ≤ y.core.taken) (sym is) (acting_i (ap acts_in_its_view (sym is) ∙ act) (ap view (sym is) ∙ same)))
      (λ f.
      let is = others_v j f in
      subst (λ (y : Node). h.low ≤ y.core.taken) (sym is) (h.acting j few_j (ap acts_in_its_view (sym is) ∙ act) (ap view (sym is) ∙ same)))

  -- ---- letters

  letter_low : (l : Letter) → LetterWasSentByStep w m n c l → LetterHasLowBase q (view (w.nodes q)) h.low l.packet
  letter_low l (before k at) = h.letters k l at
  letter_low l (now says) = said_letter_of_other_name m n c q (view (w.nodes q)) h.low l.to l.packet (λ is. apart (sym (name_of_node_after rules events e c step s t x) ∙ is)) says.says

  -- who steps is no sequencer, so it sends no Welcome
  no_second : is_sequencer n ≡ true → ⊥
  no_second t_ = apart (one_sequencer_runs rules v t i q x.new kept_t few few_q
      (names_of_nodes_after rules events e c step s t x i) (names_of_nodes_after rules events e c step s t x q) (ap is_sequencer at_i ∙ t_) (ap is_sequencer at_q ∙ leads)
      (stopped_after_step_is_before rules events e c step s t x i ∙ x.runs) (stopped_after_step_is_before rules events e c step s t x q ∙ runs_q))

  welcomed : (j base : ℕ) → WelcomeIsInLetters v j base → WelcomeIsInLetters w j base
  welcomed j base z = elim (letters_after_step_are_sent rules events e c step s t x z.number z.letter z.there) [
    | before k at ↦ welcome_stays_in_world v w j base z k at
    | now says ↦ absurd (no_second (welcome_is_said_by_sequencer m n c z.letter z.from z.stamp base z.join z.image says z.is).leads)
  ]

  -- ---- what is known

  -- a Welcome that began a list was sent to it
  heard_welcome : (b : BeganByWelcome c n) → WelcomeIsInLetters w i b.base
  heard_welcome b =
      let sent : WasSentTo w i e.act (Packet.Welcome b.from b.stamp b.base b.join b.image) = subst (IsCause w i e.act) b.says x.cause in
      let at = item_at_gives_slice_get w.letters (packet_heard_by_act e.act) sent.letter sent.there in
      record {
        number = at.0;
        letter = sent.letter;
        there = at.1;
        addressed = sent.addressed;
        welcome = record { from = b.from; stamp = b.stamp; join = b.join; image = b.image; is = sent.is };
      }

  known_i : OtherHasTakenBase w h.low (w.nodes q) i → OtherHasTakenBase v h.low (w.nodes q) i
  known_i (took most) =
      let a = up.taken in
      let z = ap (λ (y : Node). y.core.taken) at_i in
      took (omega arith)
  known_i (joins none low welcomes) = either (list_begins_by_welcome_alone m n x.effect.changes none)
      (λ still. joins (ap (λ (y : Node). has_log_by_status y.status) at_i ∙ still) low (λ base z. welcomes base (welcomed i base z)))
      (λ b. let most = welcomes b.base (heard_welcome b) in
      let taken = b.taken in
      let z = ap (λ (y : Node). y.core.taken) at_i in
      took (omega arith))
  known_i (halts stopped) = halts (stopped_after_step_is_before rules events e c step s t x i ∙ stopped)

  known_other : (j : ℕ) → (j == i) ≡ false → OtherHasTakenBase w h.low (w.nodes q) j → OtherHasTakenBase v h.low (w.nodes q) j
  known_other j f (took most) =
      let z = ap (λ (y : Node). y.core.taken) (others_v j f) in
      took (omega arith)
  known_other j f (joins none low welcomes) =
      joins (ap (λ (y : Node). has_log_by_status y.status) (others_v j f) ∙ none) low (λ base z. welcomes base (welcomed j base z))
  known_other j f (halts stopped) = halts (stopped_after_step_is_before rules events e c step s t x j ∙ stopped)

  known : (j : ℕ) → j < 256 → (j == q) ≡ false → OtherHasTakenBase v h.low (w.nodes q) j
  known j few_j far = split_on_bool (j == i)
      (λ u.
      let is = eqb-true j i u in
      subst (OtherHasTakenBase v h.low (w.nodes q)) (sym is) (known_i (subst (OtherHasTakenBase w h.low (w.nodes q)) is (h.knows j few_j far))))
      (λ f. known_other j f (h.knows j few_j far))

  pub step_of_other_settles : SequencerTrimmedTaken v q
  step_of_other_settles = record {
    low = h.low;
    base = let a = h.base in let z = ap (λ (y : Node). y.core.base) at_q in omega arith;
    acting = λ j few_j act same. acting j few_j act (same ∙ ap view at_q);
    letters = λ k l at. subst (λ u. LetterHasLowBase q u h.low l.packet) (ap view (sym at_q)) (letter_low l (letters_after_step_are_sent rules events e c step s t x k l at));
    knows = λ j few_j far. subst (λ y. OtherHasTakenBase v h.low y j) (sym at_q) (known j few_j far);
  }
