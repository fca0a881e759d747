-- What a sequencer trimmed, its members have taken: what a run keeps of it, with the group that follows.
use Rattle.am_repair.proofs.Repairable.RepairedWords.{item_at_gives_slice_get, ◌≡◌, either, ℕ, ◌<◌, ◌≤◌, ◌==◌, max, true, false, List, ◌++◌, Some, slice_get, refl, sym, ap, ◌∙◌}
use Rattle.am_repair.proofs.Repairable.RepairedWords.{subst, arith, All, All-nil, All-append, All-weaker, slice_get-get_or, Entry, Image, Stamp, Rules, Packet, Letter}
use Rattle.am_repair.proofs.Repairable.RepairedWords.{Event, key_of_stamp, equal_keys_have_equal_names, Group, Node, view, acts_in_its_view, is_member, is_sequencer, has_log_by_status, StepResult, World, is_stopped, world_with_step}
use Rattle.am_repair.proofs.Repairable.RepairedWords.{run, packet_heard_by_act, both_of_and, Cause, LetterSays, WasSentTo, IsCause, steps, item_of_index_has_property, member_status_has_log, heard_stamps_have_names, HeardStampsHaveNames}
use Rattle.am_repair.proofs.Repairable.RepairedWords.{HeardWelcomeImageIsUsed, TrimsOnlyTakenAlongStep, WorldTrimsOnlyTaken, run_trims_only_taken, events_trim_only_taken, each_node_trims_only_taken, heard_welcome_image_is_used, PacketSays, PieceSays, of_line}
use Rattle.am_repair.proofs.Repairable.RepairedWords.{of_shown, over, OneStepWithGroup, parts_of_one_step, one_step_grows_group}
use Rattle.am_repair.proofs.Repairable.Came.{CauseTellsView, by_piece, by_result, by_welcome, CameToActInView, acting_node_came_to_view}
use Rattle.am_repair.proofs.Repairable.Fresh.{WelcomeIsInLetters}
use Rattle.am_repair.proofs.Repairable.Sends.{letters_come_from_stepped_node}

-- ---- what is kept

-- each letter of a view that its name sent has a base of at least this
abbrev pub LetterHasLowBase : ℕ → Stamp → ℕ → Packet → Type 0
LetterHasLowBase q v low (Packet.Piece s u base number e) = s ≡ q → u ≡ v → low ≤ base
LetterHasLowBase q v low (Packet.Result s base number u) = s ≡ q → u.stamp ≡ v → low ≤ base
LetterHasLowBase q v low (Packet.Welcome s u base join image) = s ≡ q → u ≡ v → low ≤ base
LetterHasLowBase q v low _ = Unit {0}

-- what the sequencer knows of a name to be taken was taken, but for what it began with; or the name hasn't begun
pub data OtherHasTakenBase (w : World) (low : ℕ) (q : Node) (j : ℕ) : Type 0 where
  took : (q.reports j).taken ≤ max low (w.nodes j).core.taken → OtherHasTakenBase w low q j
  joins : has_log_by_status (w.nodes j).status ≡ false → (q.reports j).taken ≤ q.core.base → ((base : ℕ) → WelcomeIsInLetters w j base → (q.reports j).taken ≤ base)
      → OtherHasTakenBase w low q j
  halts : is_stopped w j ≡ true → OtherHasTakenBase w low q j

pub record SequencerTrimmedTaken (w : World) (q : ℕ) : Type 0 where
  pub low : ℕ
  pub base : low ≤ (w.nodes q).core.base
  pub acting : (j : ℕ) → j < 256 → acts_in_its_view (w.nodes j) ≡ true → view (w.nodes j) ≡ view (w.nodes q) → low ≤ (w.nodes j).core.taken
  pub letters : (k : ℕ) (l : Letter) → slice_get w.letters k ≡ Some l → LetterHasLowBase q (view (w.nodes q)) low l.packet
  pub knows : (j : ℕ) → j < 256 → (j == q) ≡ false → OtherHasTakenBase w low (w.nodes q) j

pub record GroupTrimsTaken (w : World) (s : Group) : Type 0 where
  pub decided : (j : ℕ) → j < 256 → acts_in_its_view (w.nodes j) ≡ true → s.views.decided (key_of_stamp (view (w.nodes j))) ≡ true
  pub welcomes : (k : ℕ) (l : Letter) (from : ℕ) (u : Stamp) (base join : ℕ) (image : Image) → slice_get w.letters k ≡ Some l
      → l.packet ≡ Packet.Welcome from u base join image → s.views.decided (key_of_stamp u) ≡ true
  pub settles : (q : ℕ) → q < 256 → is_sequencer (w.nodes q) ≡ true → is_stopped w q ≡ false → SequencerTrimmedTaken w q

-- ---- a step

-- of a run with the group that follows it, from where the record is kept
pub record TrimStepWithGroup (rules : Rules) (events : List Event) (e : Event) (c : Cause) (step : StepResult) (s t : Group) : Type 0 where
  pub goes : OneStepWithGroup rules events e c step s t
  pub open goes use *
  pub trims : GroupTrimsTaken (run rules events) s

-- a letter was sent before, or tells of the node after the step
pub data LetterWasSentByStep (w : World) (m n : Node) (c : Cause) (l : Letter) : Type 0 where
  before : (k : ℕ) → slice_get w.letters k ≡ Some l → LetterWasSentByStep w m n c l
  now : LetterSays m c n l → LetterWasSentByStep w m n c l

module _ (rules : Rules) (events : List Event) (e : Event) (c : Cause) (step : StepResult) (s t : Group) (x : TrimStepWithGroup rules events e c step s t) where
  open parts_of_one_step rules events e step use {w, i, m, n, v}
  open one_step_grows_group x.goes use {few, kept_s, node_v}

  pub world_before_keeps_laws : WorldTrimsOnlyTaken rules w
  world_before_keeps_laws = run_trims_only_taken rules events x.may

  pub world_after_keeps_laws : WorldTrimsOnlyTaken rules v
  world_after_keeps_laws = events_trim_only_taken rules w e v (steps c step x.runs x.cause x.effect) world_before_keeps_laws

  pub node_goes_along_rules : TrimsOnlyTakenAlongStep rules m
  node_goes_along_rules = each_node_trims_only_taken rules w i few world_before_keeps_laws

  pub cause_heard_small_names : HeardStampsHaveNames c
  cause_heard_small_names = heard_stamps_have_names rules w e c world_before_keeps_laws.blanks.base x.cause

  pub cause_heard_used_images : HeardWelcomeImageIsUsed c
  cause_heard_used_images = heard_welcome_image_is_used rules w e c world_before_keeps_laws x.cause

  pub names_of_nodes_before : (j : ℕ) → (w.nodes j).core.who ≡ j
  names_of_nodes_before j = world_before_keeps_laws.blanks.base.named.who j

  pub names_of_nodes_after : (j : ℕ) → (v.nodes j).core.who ≡ j
  names_of_nodes_after j = world_after_keeps_laws.blanks.base.named.who j

  pub name_of_node_after : n.core.who ≡ i
  name_of_node_after = ap (λ (y : Node). y.core.who) (sym node_v) ∙ names_of_nodes_after i

  pub stopped_after_step_is_before : (j : ℕ) → is_stopped v j ≡ is_stopped w j
  unfolding world_with_step
  stopped_after_step_is_before j = refl

  letters_v : v.letters ≡ w.letters ++ step.letters
  unfolding world_with_step
  letters_v = refl

  sent_now : All (LetterWasSentByStep w m n c) step.letters
  sent_now = either (letters_come_from_stepped_node rules events e c step s x.effect x.is few x.old)
      (λ none. subst (All (LetterWasSentByStep w m n c)) (sym none) (All-nil (LetterWasSentByStep w m n c)))
      (λ same. All-weaker (LetterSays m c x.effect.sender) (LetterWasSentByStep w m n c)
      (λ l says. now (subst (λ y. LetterSays m c y l) same says)) step.letters x.effect.letters)

  -- each letter
  pub letters_after_step_are_sent : (k : ℕ) (l : Letter) → slice_get v.letters k ≡ Some l → LetterWasSentByStep w m n c l
  letters_after_step_are_sent k l at =
      item_of_index_has_property (LetterWasSentByStep w m n c) (w.letters ++ step.letters) k l
      (All-append (LetterWasSentByStep w m n c) w.letters step.letters (λ j d low. before j (slice_get-get_or w.letters j d low)) sent_now)
      (ap (λ (ls : List Letter). slice_get ls k) (sym letters_v) ∙ at)

  pub acting_after_step_came : acts_in_its_view n ≡ true → CameToActInView c m n
  acting_after_step_came = acting_node_came_to_view rules m n cause_heard_small_names cause_heard_used_images x.effect.changes node_goes_along_rules

  pub decided_stays_by_step : (u : Stamp) → s.views.decided (key_of_stamp u) ≡ true → t.views.decided (key_of_stamp u) ≡ true
  decided_stays_by_step u d = (x.grows.decided (key_of_stamp u) d).0

  pub view_of_piece_is_decided : (from : ℕ) (u : Stamp) (number : ℕ) (y : Entry) → from < 256 → u.by ≡ from → PieceSays s from u number y
      → s.views.decided (key_of_stamp u) ≡ true
  view_of_piece_is_decided from u number y low by (of_line same d at) = d
  view_of_piece_is_decided from u number y low by (of_shown sh) = absurd (
      let k = kept_s.shown (key_of_stamp u) from sh.list sh.shown in
      k.other (equal_keys_have_equal_names k.stamp u k.small (subst (λ z. z < 256) (sym by) low) k.is ∙ by))
  view_of_piece_is_decided from u number y low by (over other d) = d

  -- the view that a letter of its own name tells was decided
  pub told_view_is_decided : (from : ℕ) (u : Stamp) (base : ℕ) → CauseTellsView c from u base → u.by ≡ from → s.views.decided (key_of_stamp u) ≡ true
  told_view_is_decided from u base tells by = by_kind tells x.cause cause_heard_small_names
    where
      by_kind : {d : Cause} → CauseTellsView d from u base → IsCause w i e.act d → HeardStampsHaveNames d → s.views.decided (key_of_stamp u) ≡ true
      by_kind (by_piece s_ v base_ number y) was names =
          let sent : WasSentTo w i e.act (Packet.Piece s_ v base_ number y) = was in
          let at = item_at_gives_slice_get w.letters (packet_heard_by_act e.act) sent.letter sent.there in
          let says : PacketSays w s sent.letter.to (Packet.Piece s_ v base_ number y) = subst (PacketSays w s sent.letter.to) sent.is
          (x.old.letters at.0 sent.letter at.1) in
          view_of_piece_is_decided s_ v number y (names.senders (Packet.Piece s_ v base_ number y) refl) by says.1
      by_kind (by_result s_ base_ number v) was names =
          let sent : WasSentTo w i e.act (Packet.Result s_ base_ number v) = was in
          let at = item_at_gives_slice_get w.letters (packet_heard_by_act e.act) sent.letter sent.there in
          let says : PacketSays w s sent.letter.to (Packet.Result s_ base_ number v) =
          subst (PacketSays w s sent.letter.to) sent.is (x.old.letters at.0 sent.letter at.1) in
          (says.1 by).decided
      by_kind (by_welcome s_ v base_ join image) was names =
          let sent : WasSentTo w i e.act (Packet.Welcome s_ v base_ join image) = was in
          let at = item_at_gives_slice_get w.letters (packet_heard_by_act e.act) sent.letter sent.there in
          x.trims.welcomes at.0 sent.letter s_ v base_ join image at.1 sent.is

-- ---- what it gives

-- who acts in the sequencer's view has taken what it trimmed
pub base_le_taken_of_others : (w : World) (q j : ℕ) → SequencerTrimmedTaken w q → j < 256 → (j == q) ≡ false → acts_in_its_view (w.nodes j) ≡ true → view (w.nodes j) ≡ view (w.nodes q)
    → is_stopped w j ≡ false → (w.nodes q).core.base ≤ ((w.nodes q).reports j).taken → (w.nodes q).core.base ≤ (w.nodes j).core.taken
base_le_taken_of_others w q j h few other act same goes known = elim (h.knows j few other) [
  | took most ↦ let a = h.acting j few act same in omega arith
  | joins none low welcomes ↦ absurd (let t = member_status_has_log (w.nodes j).status (both_of_and (is_member (w.nodes j).status) _ act).0 in cc)
  | halts t ↦ absurd (cc)
]
