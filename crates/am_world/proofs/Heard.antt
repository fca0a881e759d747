-- What comes of an event at which a letter is heard, or its first bytes.
use Rattle.am_world.proofs.Words.{◌≡◌, ℕ, ◌<◌, Bool, true, false, List, [], Option, Some, None, refl, sym, ap, ◌∙◌, subst, arith, Asked, OnStep}
use Rattle.am_world.proofs.Words.{none-some, same_Some, Rules, place_of_name, Entry, Letter, IsPacket, spelling, Act, Event}
use Rattle.am_world.proofs.Words.{Record, is_for, letters_of_records, letter_at, current, happens, Node, Heard, flag_of, first_bytes, heard_of, event_or_answer}
use Rattle.am_world.proofs.Words.{comes, SpellsPacket, Play, replay, play_of, IsRun}
use Rattle.am_journal.specs.Asked.{hears}
use Rattle.am_base.specs.declared.event.NodeEvent.TheVariants as does
use Rattle.am_base.specs.declared.outcome.Outcome.TheVariants as said
use Rattle.am_journal.specs.declared.asked.Asked.TheVariants as asked
use Rattle.am_group.specs.declared.event.Act.TheVariants as act
use Rattle.am_world.proofs.{Comes.has_actor_gone_now, Comes.event_comes_to_asked, Comes.on_step_weaker, Goes.play_shows_its_replay}

-- ---- what was looked up

pub hears_without_packet : (keep : Option ℕ) (name : ℕ) (stopped : Bool) (found : Option Letter) → found ≡ None
    → asked.Answer said.NoPacket ≡ hears keep name stopped found
hears_without_packet keep name stopped found none = sym (ap (hears keep name stopped) none)

pub hears_packet_for_others : (keep : Option ℕ) (name : ℕ) (stopped : Bool) (found : Option Letter) (letter : Letter) → found ≡ Some letter
    → is_for letter name ≡ false → asked.Answer said.NotAddressed ≡ hears keep name stopped found
hears_packet_for_others keep name stopped found letter there other = sym (ap (hears keep name stopped) there ∙ rw other refl)

pub hears_of_stopped_name : (keep : Option ℕ) (name : ℕ) (stopped : Bool) (found : Option Letter) (letter : Letter) → found ≡ Some letter
    → is_for letter name ≡ true → stopped ≡ true → asked.Answer said.IsStopped ≡ hears keep name stopped found
hears_of_stopped_name keep name stopped found letter there own stop = sym (ap (hears keep name stopped) there ∙ rw (own, stop) refl)

pub hears_packet_bytes : (keep : Option ℕ) (name : ℕ) (stopped : Bool) (found : Option Letter) (letter : Letter) (bytes : List ℕ) → found ≡ Some letter
    → is_for letter name ≡ true → stopped ≡ false → bytes ≡ first_bytes keep (spelling letter.packet)
    → asked.Step (does.Hear bytes) ≡ hears keep name stopped found
hears_packet_bytes keep name stopped found letter bytes there own runs same =
    ap (λ bs. asked.Step (does.Hear bs)) same ∙ sym (ap (hears keep name stopped) there ∙ rw (own, runs) refl)

-- no other letter is found
pub found_letter_is_packet : (found : Option Letter) (letter other : Letter) → found ≡ Some letter → IsPacket letter.packet → found ≡ Some other → IsPacket other.packet
found_letter_is_packet found letter other there is again = subst (λ (l : Letter). IsPacket l.packet) (same_Some letter other (sym there ∙ again)) is

-- ---- what comes of it

heard_asked : (letters : List Letter) (flags : List Bool) (departed : Bool) (name : ℕ) (a : Act) (h : Heard) → heard_of a ≡ Some h
    → event_or_answer letters flags departed name a ≡ hears h.keep name (flag_of flags name) (letter_at letters h.packet)
heard_asked letters flags departed name (act.Hear number) h is =
    ap (λ (x : Heard). hears x.keep name (flag_of flags name) (letter_at letters x.packet)) (same_Some (record { packet = number; keep = None }) h is)
heard_asked letters flags departed name (act.Cut number keep) h is =
    ap (λ (x : Heard). hears x.keep name (flag_of flags name) (letter_at letters x.packet)) (same_Some (record { packet = number; keep = Some keep }) h is)
heard_asked letters flags departed name _ h is = absurd (none-some _ is)

-- what hears nothing needs no letters
pub call_is_asked_as_event : (letters : List Letter) (flags : List Bool) (departed : Bool) (name : ℕ) (a : Act) → heard_of a ≡ None
    → event_or_answer [] flags departed name a ≡ event_or_answer letters flags departed name a
call_is_asked_as_event letters flags departed name (act.Hear number) is = absurd (none-some _ (sym is))
call_is_asked_as_event letters flags departed name (act.Cut number keep) is = absurd (none-some _ (sym is))
call_is_asked_as_event letters flags departed name _ is = refl

-- and spells none
called_spells : (letters : List Letter) (a : Act) → heard_of a ≡ None → SpellsPacket letters a
called_spells letters a none = λ h letter is there. absurd (none-some _ (sym none ∙ is))

on_any : {P : Type 0} (r : Asked) → P → OnStep r P
on_any (asked.Step what) p = p
on_any (asked.Answer outcome) p = tt

pub call_spells_no_packet : (letters : List Letter) (a : Act) (r : Asked) → heard_of a ≡ None → OnStep r (SpellsPacket letters a)
call_spells_no_packet letters a r none = on_any r (called_spells letters a none)

-- what is heard comes to what the run makes of it
pub hearing_comes_in_replay : (p : Play) (first : Rules) (nodes : List Node) (lives : List ℕ) (flags : List Bool) (records : List Record) (group : List Entry) (e : Event)
    (h : Heard) (name : ℕ) (r : Asked)
    → play_of first records ≡ p → IsRun (play_of first records) nodes lives flags records group
    → name ≡ current (replay p) (place_of_name e.node) → heard_of e.act ≡ Some h
    → r ≡ hears h.keep name (flag_of flags name) (letter_at (letters_of_records records) h.packet)
    → OnStep r ((l : Letter) → letter_at (letters_of_records records) h.packet ≡ Some l → IsPacket l.packet)
    → happens (replay p) e ≡ comes (replay p) e r
hearing_comes_in_replay p first nodes lives flags records group e h name r view ok here heard is packets =
    let w = replay p in
    let place = place_of_name e.node in
    let within : place < 16 = omega arith in
    let was = play_shows_its_replay p first nodes lives flags records group view ok in
    let now : r ≡ event_or_answer w.letters flags (has_actor_gone_now w e) (current w place) e.act =
    is ∙ ap (λ ls. hears h.keep name (flag_of flags name) (letter_at ls h.packet)) was.sent
    ∙ ap (λ k. hears h.keep k (flag_of flags k) (letter_at w.letters h.packet)) here
    ∙ sym (heard_asked w.letters flags (has_actor_gone_now w e) (current w place) e.act h heard) in
    let spells : OnStep r (SpellsPacket w.letters e.act) =
    on_step_weaker r (λ (all : (l : Letter) → letter_at (letters_of_records records) h.packet ≡ Some l → IsPacket l.packet).
    λ g l of there. all l (ap (λ ls. letter_at ls h.packet) was.sent
    ∙ ap (λ (x : Heard). letter_at w.letters x.packet) (same_Some h g (sym heard ∙ of)) ∙ there))
    packets in
    event_comes_to_asked w e flags was.stopped.each within (was.living.within place within).0 (subst (λ q. OnStep q (SpellsPacket w.letters e.act)) now spells)
    ∙ ap (comes w e) (sym now)
