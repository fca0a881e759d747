-- What an event spells is read as that event.
use Rattle.std.proofs.Common.{◌≡◌, ℕ, ◌+◌, ◌^◌, ◌<◌, ◌≤◌, List, [], ◌∷◌, ◌++◌, length, drop, slice_index, true, false, nat_lt, Bool, Ok, refl, sym, ap, ◌∙◌, arith}
use Rattle.std.specs.Prelude.{nat_le, ◌==◌}
use Rattle.std.proofs.lemmas.Bool.{le-ltb, lt-ltb, le-leb, eq-eqb}
use Rattle.std.proofs.lemmas.Bool.Decides.{nat_tests}
use Rattle.byteorder.specs.Endian.{big_bytes, big_number}
use Rattle.byteorder.specs.Numbers.{big_number-reads_back}
use Rattle.am_base.specs.Limits.{NumberIsInRange}
use Rattle.am_base.specs.Most.{greatest_number, most_bytes_of_body, most_bytes_of_packet}
use Rattle.am_base.specs.Names.{IsSetOfNames}
use Rattle.am_base.specs.declared.event.NodeEvent.TheVariants as does
use Rattle.am_packet.specs.Spelling.{flag_byte, set_bytes}
use Rattle.am_packet.proofs.Fields.{flag_at_flag_byte, set_at_set_bytes}
use Rattle.am_node_lines.specs.declared.line.Line.{Line}
use Rattle.am_node_lines.specs.declared.line.Line.TheVariants as line
use Rattle.am_node_lines.specs.Lines.{most_line}
use Rattle.am_bytes.specs.Events.{word_at, count_in, name_in, body_in, packet_bytes_in, sized, reset_in_bytes, hear_in, event_by, event_of, event_bytes}
use Rattle.am_bytes.specs.Laws.{IsEvent, EventsAreRead}

-- a kind and few fields are an event of that kind
event_is : (kind : ℕ) (fields : List ℕ) → length fields ≤ 4000 → event_of (kind ∷ fields) ≡ event_by (word_at kind) fields
unfolding event_of
event_is kind fields few =
    let fits : nat_lt most_line (length (kind ∷ fields)) ≡ false = grind (arith, nat_tests) in
    rw fits refl

count_by : (fields : List ℕ) (n : ℕ) → length fields ≡ 4 → big_number 4 fields ≡ n → 0 < n → n ≤ greatest_number → count_in fields ≡ Ok n
unfolding count_in
count_by fields n long number some few =
    rw (eq-eqb (length fields) 4 long, number, lt-ltb 0 n some, le-leb n greatest_number few) refl

count_read : (n : ℕ) → 0 < n → NumberIsInRange n → count_in (big_bytes 4 n) ≡ Ok n
count_read n some few = count_by (big_bytes 4 n) n refl (big_number-reads_back 4 n [] (omega (arith, few))) some few

body_read : (body : List ℕ) → length body ≤ most_bytes_of_body → body_in body ≡ Ok body
unfolding body_in
body_read body few = rw (le-leb (length body) most_bytes_of_body few) refl

packet_read : (bytes : List ℕ) → length bytes ≤ most_bytes_of_packet → packet_bytes_in bytes ≡ Ok bytes
unfolding packet_bytes_in
packet_read bytes few = rw (le-leb (length bytes) most_bytes_of_packet few) refl

sizes_read : (least resilience : ℕ) → 0 < least → least ≤ 16 → resilience ≤ 15 → sized least resilience ≡ line.Does (does.Reset least resilience)
sizes_read least resilience some few low = rw (lt-ltb 0 least some, le-leb least 16 few, le-leb resilience 15 low) refl

hear_by : (fields bytes to : List ℕ) (any : Bool) → slice_index fields 0 ≡ flag_byte any → drop 1 fields ≡ set_bytes to ++ bytes → drop 11 fields ≡ bytes
    → 11 ≤ length fields → IsSetOfNames to → length bytes ≤ most_bytes_of_packet → hear_in fields ≡ line.Hears any to bytes
unfolding hear_in
hear_by fields bytes to any first second third long is few =
    rw (le-ltb (length fields) 11 long, flag_at_flag_byte fields 0 any first, set_at_set_bytes fields bytes 1 to second is, third, packet_read bytes few) refl

hear_read : (any : Bool) (to bytes : List ℕ) → IsSetOfNames to → length bytes ≤ most_bytes_of_packet
    → hear_in (flag_byte any ∷ [] ++ set_bytes to ++ bytes) ≡ line.Hears any to bytes
hear_read any to bytes is few = hear_by (flag_byte any ∷ [] ++ set_bytes to ++ bytes) bytes to any refl refl refl (omega arith) is few

pub spelled_events_are_read : EventsAreRead
unfolding event_of event_by event_bytes word_at name_in reset_in_bytes
spelled_events_are_read (line.Does (does.Send body)) is = event_is 16 body (omega (arith, is)) ∙ rw (body_read body is) refl
spelled_events_are_read (line.Does (does.Done req)) is = rw (count_read req is.0 is.1) refl
spelled_events_are_read (line.Does does.Take) is = refl
spelled_events_are_read (line.Does does.Join) is = refl
spelled_events_are_read (line.Does does.State) is = refl
spelled_events_are_read (line.Does does.Leave) is = refl
spelled_events_are_read (line.Does (does.Reset least resilience)) is = sizes_read least resilience is.0 is.1 is.2
spelled_events_are_read (line.Does (does.Ask round)) is = rw (count_read round is.0 is.1) refl
spelled_events_are_read (line.Does (does.GiveUp name)) is = refl
spelled_events_are_read (line.Does does.Tick) is = refl
spelled_events_are_read (line.Does (does.Hear bytes)) is = absurd is
spelled_events_are_read (line.Hears any to bytes) is =
    event_is 21 (flag_byte any ∷ [] ++ set_bytes to ++ bytes) (omega (arith, is.1)) ∙ hear_read any to bytes is.0 is.1
spelled_events_are_read line.Info is = refl
spelled_events_are_read (line.Bad cause) is = absurd is
