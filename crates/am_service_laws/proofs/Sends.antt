-- The claims of runs.
use Rattle.am_service_laws.proofs.Words.{◌≡◌, ◌≢◌, ℕ, zero, suc, ◌+◌, ◌-◌, ◌<◌, List, [], ◌∷◌, ◌++◌, length, take, Some, slice_get, ap, ◌∙◌, subst, arith}
use Rattle.am_service_laws.proofs.Words.{take-length, length-take-le, slice_get_within, split_on_bool, has, place_of_name, Rules, MayFound, Data, Join, Event, item_at}
use Rattle.am_service_laws.proofs.Words.{deliveries, World, run, IsSegment, BeginsAt, IsSend, lawful_front, IsGoodList, taken_front_begins_list, beginning_of_good_is_good, slice_get_of_take}
use Rattle.am_service_laws.proofs.Words.{headline_holds, part_count, part_of, from_place, EndsAt, part_count_fits_size, list_is_front_and_last, slice_get-take, world_at_front}
use Rattle.am_service_laws.proofs.Words.{DeliveredMessagesEnd, WholeMessagesAreDelivered, SentInParts, SentMessagesEnd}
use Rattle.am_service_laws.proofs.{AssembledPieces.piece_message_ends_in_list, AssembledPieces.list_message_ends_in_piece, Runs.front_group_list_is_good, Runs.recorded_request_has_one_body, Runs.recorded_request_is_positive}
use Rattle.am_service_laws.proofs.{Tails.SendsOfNameAreParts, Tails.list_tail_ends_with_parts}

-- ---- what was given

start_above : (rules : Rules) (w : World) (name start : ℕ) → BeginsAt rules w name start → 0 < start
start_above rules w name start begins = split_on_bool (has rules.founders name)
    (λ founder. omega (arith, begins.founder founder))
    (λ joiner. above start (begins.joiner joiner).1)
  where
    above : (n : ℕ) → item_at w.group n ≡ Some (Join name) → 0 < n
    above zero at = absurd (cc)
    above (suc n) at = omega arith

-- the piece of the group's list that a name was given
given_piece : (rules : Rules) (events : List Event) (name : ℕ) → MayFound rules → deliveries (world_at_front rules events).records name ≢ []
    → (start : ℕ) × BeginsAt rules (world_at_front rules events) name start × IsSegment (deliveries (world_at_front rules events).records name) start
    (world_at_front rules events).group × (0 < start)
given_piece rules events name may some =
    let piece = (headline_holds rules events may).front.segment.each name some in
    (piece.0, piece.1, piece.2, start_above rules (world_at_front rules events) name piece.0 piece.1)

pub delivered_messages_end_in_list : DeliveredMessagesEnd
delivered_messages_end_in_list rules events name may some =
    let piece = given_piece rules events name may some in
    (piece.0, record { begins = piece.1; ends = λ k from message. piece_message_ends_in_list _ piece.0 _ k from message piece.3 piece.2 })

pub whole_messages_of_list_delivered : WholeMessagesAreDelivered
whole_messages_of_list_delivered rules events name may some =
    let piece = given_piece rules events name may some in
    (piece.0, record { begins = piece.1; ends = λ k from message. list_message_ends_in_piece _ piece.0 _ k from message piece.3 piece.2 })

-- ---- what was sent

-- each Data of the name that stands in the list was sent with that body, and so is a part where it has a part's request
sends_parts : (rules : Rules) (events : List Event) (name first number : ℕ) (message : List ℕ) → MayFound rules
    → SentInParts (world_at_front rules events) name first number message → SendsOfNameAreParts name first message (world_at_front rules events).group
sends_parts rules events name first number message may sent k req body at up below =
    let front = lawful_front rules events in
    let index = req - first in
    let within : index < part_count (length message) = omega arith in
    let request : first + index ≡ req = omega arith in
    let all : run rules (take (length front) front) ≡ run rules front = ap (run rules) (take-length front) in
    let there : item_at (run rules (take (length front) front)).group (suc k) ≡ Some (Data name req body) = ap (λ (w : World). slice_get w.group k) all ∙ at in
    let was = (headline_holds rules events may).front.sent.each (length front) (suc k) name req body there in
    let part = sent.sends index within in
    recorded_request_has_one_body rules front name req was.0 part.0 body (part_of message index) was.1 part.1 was.3 part.2 was.4
    (subst (λ n. IsSend part.1 name n (part_of message index)) request part.3)

-- by where the last part stands
ends_there : (rules : Rules) (events : List Event) (name first number : ℕ) (message body : List ℕ) → MayFound rules
    → SentInParts (world_at_front rules events) name first number message → 0 < first
    → item_at (world_at_front rules events).group number ≡ Some (Data name (first + part_count (length message) - 1) body)
    → EndsAt (world_at_front rules events).group number name message
ends_there rules events name first zero message body may sent above at = absurd (cc)
ends_there rules events name first (suc k) message body may sent above at =
    let w = world_at_front rules events in
    let req = first + part_count (length message) - 1 in
    let some = (part_count_fits_size (length message)).some in
    let within = slice_get_within w.group k (Data name req body) at in
    let place : suc k - 1 ≡ k = omega arith in
    let below : k < suc k = omega arith in
    let long : length (take (suc k) w.group) ≡ k + 1 = length-take-le (suc k) w.group (omega arith) ∙ omega arith in
    let last : slice_get (take (suc k) w.group) k ≡ Some (Data name req body) = slice_get-take (suc k) k w.group below ∙ at in
    let cut : take (suc k) w.group ≡ take k (take (suc k) w.group) ++ Data name req body ∷ [] =
    list_is_front_and_last (take (suc k) w.group) k (Data name req body) last long in
    let init = take k (take (suc k) w.group) in
    let good : IsGoodList (init ++ Data name req body ∷ []) = subst IsGoodList cut (beginning_of_good_is_good (taken_front_begins_list (suc k) w.group) (front_group_list_is_good rules events may)) in
    let parts : SendsOfNameAreParts name first message (init ++ Data name req body ∷ []) = subst (SendsOfNameAreParts name first message) cut
    (λ j r b there. sends_parts rules events name first (suc k) message may sent j r b (slice_get_of_take (suc k) w.group j (Data name r b) there)) in
    let ends = list_tail_ends_with_parts name first message init req body good above (omega (arith, some)) parts in
    record {
      from_one = omega arith;
      last = (req, body, ap (slice_get w.group) place ∙ at);
      few = sent.few;
      parts = (ends.0, ap (from_place (place_of_name name)) cut ∙ ends.1);
    }

pub sent_messages_end_in_list : SentMessagesEnd
sent_messages_end_in_list rules events name first number message may sent =
    let w = world_at_front rules events in
    let front = lawful_front rules events in
    let once = (headline_holds rules events may).front.once.each sent.answer _ sent.answered in
    let body = once.there.0 in
    let some = (part_count_fits_size (length message)).some in
    let first_part = sent.sends 0 some in
    let above : 0 < first = omega (arith, recorded_request_is_positive rules front first_part.0 first_part.1 name (first + 0) (part_of message 0) first_part.2 first_part.3) in
    ends_there rules events name first number message body may sent above once.there.1
