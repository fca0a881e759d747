-- Which Views a step of any cause adds to a node's list, and that these are what a watcher is told.
use Rattle.am_step_laws.proofs.Words.{arith, member_status_has_log, stamp_eq_of_itself, ◌≡◌, ℕ, ◌&&◌, ◌||◌, not, Bool, true, false, [], ◌∷◌, Option, Some, None, refl}
use Rattle.am_step_laws.proofs.Words.{sym, ap, ◌∙◌, list_any, list_any-append, Outcome, Stamp, NodeEvent, stamps_are_equal, Packet, Ballot, view, is_member, has_log_by_status}
use Rattle.am_step_laws.proofs.Words.{StepResult, finish, hear_row, step, row, hear_packet, hear_refused_bytes, split_on_bool, Cause, hears, Effect}
use Rattle.am_step_laws.proofs.Watching.StoredWords.{or_right, or_left, or-false, Ok, Err, Piece, Read, reading, refusal_number, row_of_read_bytes, is_view_of, refuses, steps_have_effects}
use Rattle.am_step_laws.proofs.Watching.StoredWords.{hearing_has_effects, refusing_has_effects, NodeBallotFits, OpenBallotIsPromised, watch_decides, standing_of, last_view_of_node, HasNoEntriesWithoutLog, list_begins_in_step, list_of_option}
use Rattle.am_step_laws.proofs.Watching.StoredWords.{entry_of_piece, entry_of_read_piece, entry_of_heard_piece, view_entry_of, views_stored_in_step}
use Rattle.am_packet.specs.declared.packet.Packet.TheVariants.{Result}
use Rattle.am_model.specs.Node.{Node}
use Rattle.am_base.specs.declared.event.NodeEvent.TheVariants as does
use Rattle.am_step_laws.proofs.Watching.StoredViews.{log_has_view, OpenBallotIsAboveView, CauseBringsNoView, ViewsAddedByChanges, still, more, new, changes_add_known_views}
use Rattle.am_step_laws.proofs.Watching.StoredPieces.{any_entry_is_view, AddsViewsToList, none, last, began, StepAddsViews, finish_adds_no_view, lower_stamp_is_not_equal, piece_adds_its_view, result_adds_its_view}

-- ---- what brings no View

above_opened : (who : ℕ) (promise v : Stamp) (ballot : Option Ballot) → OpenBallotIsPromised who promise v ballot → OpenBallotIsAboveView v ballot
above_opened who promise v None h = tt
above_opened who promise v (Some b) h = λ over. (h over).above

walk_adds : {c : Cause} {o : Outcome} (name : ℕ) (m n : Node) → HasNoEntriesWithoutLog m → ViewsAddedByChanges c o m n → AddsViewsToList name [] m n.status n.core.log
walk_adds name m n bare (still h) = none h.views h.same
walk_adds name m n bare (more h) = last h.views h.above h.member (λ f v. refl)
walk_adds name m n bare (new h) = began h.views (λ v. ap (list_any (is_view_of v)) (bare h.bare)) h.bare (ap is_member h.member)

-- what may bring a View: a Piece and a Result
abbrev may_bring : Cause → Bool
may_bring (hears (Piece s v base number e)) = true
may_bring (hears (Result s base number v)) = true
may_bring _ = false

brings_none : (c : Cause) → may_bring c ≡ false → CauseBringsNoView c
brings_none c f = record {
  pieces = λ s v base number e is. (let t = ap may_bring is in cc);
  results = λ s base number v is. (let t = ap may_bring is in cc);
}

plain_adds : (name : ℕ) (m : Node) (c : Cause) (s : StepResult) → may_bring c ≡ false → NodeBallotFits m → HasNoEntriesWithoutLog m → Effect m c s → StepAddsViews name [] m s
plain_adds name m c s plain kept bare effect = walk_adds name m s.node bare
    (changes_add_known_views m s.node (brings_none c plain) kept.high (above_opened m.core.who m.core.promise (view m) m.ballot kept.opened) effect.changes)

-- ---- each cause

packet_adds : (name : ℕ) (m : Node) (p : Packet) → may_bring (hears p) ≡ false → NodeBallotFits m → HasNoEntriesWithoutLog m → StepAddsViews name [] m (hear_packet m p)
packet_adds name m p plain kept bare = plain_adds name m (hears p) (hear_packet m p) plain kept bare (hearing_has_effects m p)

hear_adds : (name : ℕ) (m : Node) (p : Packet) → m.core.who ≡ name → NodeBallotFits m → HasNoEntriesWithoutLog m → StepAddsViews name (list_of_option (entry_of_piece p)) m (hear_packet m p)
unfolding hear_packet
hear_adds name m (Piece s v base number e) who kept bare = finish_adds_no_view name (e ∷ []) m (hear_row m (Piece s v base number e))
    (piece_adds_its_view name m s v base number e who kept)
hear_adds name m (Result s base number v) who kept bare =
    finish_adds_no_view name [] m (hear_row m (Result s base number v)) (result_adds_its_view name m s base number v)
hear_adds name m _ who kept bare = packet_adds name m _ refl kept bare

read_adds : (name : ℕ) (m : Node) (r : Read Packet) → m.core.who ≡ name → NodeBallotFits m → HasNoEntriesWithoutLog m
    → StepAddsViews name (list_of_option (entry_of_read_piece r)) m (finish m (row_of_read_bytes m r))
unfolding hear_packet hear_refused_bytes
read_adds name m (Ok p) who kept bare = hear_adds name m p who kept bare
read_adds name m (Err refusal) who kept bare = plain_adds name m refuses (hear_refused_bytes m (refusal_number refusal)) refl kept bare
    (refusing_has_effects m (refusal_number refusal))

pub each_step_adds_views : (name : ℕ) (m : Node) (what : NodeEvent) → m.core.who ≡ name → NodeBallotFits m → HasNoEntriesWithoutLog m → StepAddsViews name (list_of_option (entry_of_heard_piece what)) m (step m what)
unfolding step row
each_step_adds_views name m (does.Hear bytes) who kept bare = read_adds name m (reading bytes) who kept bare
each_step_adds_views name m event who kept bare = plain_adds name m _ (step m event) refl kept bare (steps_have_effects m event)

-- ---- what is told

both_false : (a b : Bool) → a ≡ false → b ≡ false → (a || b) ≡ false
both_false a b h k = rw (h, k) refl

not_begun : (a b : Bool) → (b ≡ true → a ≡ true) → (not a && b) ≡ false
not_begun a b h = grind arith

just_begun : (a b : Bool) → a ≡ false → b ≡ true → (not a && b) ≡ true
just_begun a b h k = rw (h, k) refl

-- the Views of what is told are those that were added
pub stored_views_are_added_views : (name : ℕ) (m n : Node) (what : NodeEvent) (v : Stamp) → AddsViewsToList name (list_of_option (entry_of_heard_piece what)) m n.status n.core.log
    → log_has_view n.core.log v ≡ (log_has_view m.core.log v || any_entry_is_view (views_stored_in_step name (standing_of m) (standing_of n) (last_view_of_node n) what) v)
stored_views_are_added_views name m n what v (none views same) =
    let is : (list_begins_in_step (standing_of m) n.status || stamps_are_equal (view m) (view n)) ≡ true =
    or_right (list_begins_in_step (standing_of m) n.status) _ (ap (stamps_are_equal (view m)) same ∙ stamp_eq_of_itself (view m)) in
    rw is (views v ∙ sym (or-false (log_has_view m.core.log v)))
stored_views_are_added_views name m n what v (last views above member absorbed) =
    let es = list_of_option (entry_of_heard_piece what) in
    let l = view_entry_of (last_view_of_node n) in
    let same = stamps_are_equal (view n) v in
    let is : (list_begins_in_step (standing_of m) n.status || stamps_are_equal (view m) (view n)) ≡ false =
    both_false (list_begins_in_step (standing_of m) n.status) _ (not_begun (has_log_by_status m.status) (is_member n.status) (λ t. member_status_has_log m.status (member t)))
    (lower_stamp_is_not_equal (view m) (view n) above) in
    rw is (views v ∙ ap (λ b. log_has_view m.core.log v || b) (split_on_bool (watch_decides (standing_of m) name (standing_of n))
    (λ t. rw t (ap (λ b. any_entry_is_view es v || b) (sym (or-false same)) ∙ sym (list_any-append (is_view_of v) es (l ∷ []))))
    (λ f. rw f (absorbed f v ∙ sym (or-false same)))))
stored_views_are_added_views name m n what v (began views bare was is_) =
    let is : (list_begins_in_step (standing_of m) n.status || stamps_are_equal (view m) (view n)) ≡ true =
    or_left (list_begins_in_step (standing_of m) n.status) _ (just_begun (has_log_by_status m.status) (is_member n.status) was is_) in
    rw is (views v ∙ sym (bare v) ∙ sym (or-false (log_has_view m.core.log v)))
