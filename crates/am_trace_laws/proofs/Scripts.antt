-- A line that begins with a brace before a run's text is passed over, as what was done in a race is as a script.
use Rattle.am_trace_laws.proofs.Words.{◌≡◌, ℕ, ◌+◌, ◌==◌, ◌&&◌, Bool, true, false, cond, List, [], ◌∷◌, ◌++◌, length, refl, sym, ap, ◌∙◌, Result, Ok, Err}
use Rattle.am_trace_laws.proofs.Words.{Option, codes, decimal, slice_index, flat_map, All-head, All-tail, Rules, place_of_name, life_of_name, Act, Event, FieldFault}
use Rattle.am_trace_laws.proofs.Words.{cut_of, split_text, newline, hex_byte, act_word, names_text, life_json, resilience_json, body_json, keys_before}
use Rattle.am_trace_laws.proofs.Words.{keys_behind, word_json, event_json, others_json, list_json, events_json, founders_json, numbers_json, script_text}
use Rattle.am_trace_laws.proofs.Words.{IsOfBytes, AreOfBytes, Reading, nothing_read, is_text_end, add_line, read_on, read_lines, read_behind, read_text, HasNoNewline}
use Rattle.am_trace_laws.proofs.Words.{cut_of_line_at_newline, decimal_is_word, names_text_is_word, word_is_plain_text, hex_text_is_word, Entry, founders_entry, World, logs, Watch, watch_run}
use Rattle.am_trace_laws.proofs.Words.{text_of_watch, play_text_of, play_text, watched_is_run, reading_of, ScriptsArePassedOver}
use Rattle.am_trace_laws.proofs.{Chars.plain_text_is_line, Chars.appended_lines_are_line, Chars.act_is_word, Runs.group_begins_with_founders_view, Whole.play_text_begins_without_brace}
use Rattle.am_group.specs.declared.event.Act.TheVariants as acts

-- ---- what a script is written of

number_line : (n : ℕ) → HasNoNewline (decimal n)
number_line n = plain_text_is_line (decimal n) (word_is_plain_text (decimal n) (decimal_is_word n))

-- a word, a number, and more
keyed : (word : List ℕ) (n : ℕ) → HasNoNewline word → HasNoNewline (word ++ decimal n)
keyed word n is = appended_lines_are_line word (decimal n) is (number_line n)

life_by : (b : Bool) (life : ℕ) → HasNoNewline (cond b [] (codes ",\"life\":" ++ decimal life))
life_by true life = refl
life_by false life = keyed (codes ",\"life\":") life refl

life_line : (name : ℕ) → HasNoNewline (life_json name)
unfolding life_json
life_line name = life_by (life_of_name name == 1) (life_of_name name)

resilience_by : (b : Bool) (resilience : ℕ) → HasNoNewline (cond b [] (codes ",\"resilience\":" ++ decimal resilience))
resilience_by true resilience = refl
resilience_by false resilience = keyed (codes ",\"resilience\":") resilience refl

body_line : (act : Act) → IsOfBytes act → HasNoNewline (body_json act)
unfolding body_json
body_line (acts.Send body) bytes =
    appended_lines_are_line (flat_map hex_byte body) (codes "\",") (plain_text_is_line (flat_map hex_byte body) (word_is_plain_text (flat_map hex_byte body) (hex_text_is_word body bytes))) refl
body_line _ bytes = refl

before_line : (act : Act) → HasNoNewline (keys_before act)
unfolding keys_before
before_line (acts.Reset least resilience) = keyed (codes ",\"least\":") least refl
before_line (acts.GiveUp name) = appended_lines_are_line (life_json name) (codes ",\"name\":" ++ decimal (place_of_name name)) (life_line name)
    (keyed (codes ",\"name\":") (place_of_name name) refl)
before_line (acts.Cut packet keep) = keyed (codes ",\"keep\":") keep refl
before_line _ = refl

behind_line : (rules : Rules) (act : Act) → HasNoNewline (keys_behind rules act)
unfolding keys_behind resilience_json
behind_line rules (acts.Done req) = keyed (codes ",\"req\":") req refl
behind_line rules (acts.Reset least resilience) = resilience_by (resilience == rules.resilience) resilience
behind_line rules (acts.Ask round) = keyed (codes ",\"round\":") round refl
behind_line rules (acts.Hear packet) = keyed (codes ",\"packet\":") packet refl
behind_line rules (acts.Cut packet keep) = keyed (codes ",\"packet\":") packet refl
behind_line rules _ = refl

word_line : (act : Act) → HasNoNewline (word_json act)
unfolding word_json
word_line act =
    appended_lines_are_line (act_word act) (codes "\"" ++ keys_before act) (plain_text_is_line (act_word act) (word_is_plain_text (act_word act) (act_is_word act))) (before_line act)

event_line : (rules : Rules) (event : Event) → IsOfBytes event.act → HasNoNewline (event_json rules event)
unfolding event_json
event_line rules event bytes =
    let node = decimal (place_of_name event.node) in
    appended_lines_are_line (body_json event.act) (word_json event.act ++ (codes ",\"node\":" ++ (node ++ (keys_behind rules event.act ++ codes "}")))) (body_line event.act bytes)
    (appended_lines_are_line (word_json event.act) (codes ",\"node\":" ++ (node ++ (keys_behind rules event.act ++ codes "}"))) (word_line event.act)
    (appended_lines_are_line node (keys_behind rules event.act ++ codes "}") (number_line (place_of_name event.node))
    (appended_lines_are_line (keys_behind rules event.act) (codes "}") (behind_line rules event.act) refl)))

others_line : (rules : Rules) (events : List Event) → AreOfBytes events → HasNoNewline (others_json rules events)
others_line rules [] bytes = refl
others_line rules (e ∷ es) bytes =
    appended_lines_are_line (codes "," ++ event_json rules e) (others_json rules es) (event_line rules e (All-head (λ (x : Event). IsOfBytes x.act) e es bytes))
    (others_line rules es (All-tail (λ (x : Event). IsOfBytes x.act) e es bytes))

list_line : (rules : Rules) (events : List Event) → AreOfBytes events → HasNoNewline (list_json rules events)
unfolding list_json
list_line rules [] bytes = refl
list_line rules (e ∷ es) bytes =
    appended_lines_are_line (event_json rules e) (others_json rules es) (event_line rules e (All-head (λ (x : Event). IsOfBytes x.act) e es bytes))
    (others_line rules es (All-tail (λ (x : Event). IsOfBytes x.act) e es bytes))

events_line : (rules : Rules) (events : List Event) → AreOfBytes events → HasNoNewline (events_json rules events)
unfolding events_json
events_line rules events bytes = appended_lines_are_line (list_json rules events) (codes "]") (list_line rules events bytes) refl

founders_line : (rules : Rules) → HasNoNewline (founders_json rules)
unfolding founders_json
founders_line rules =
    appended_lines_are_line (names_text rules.founders) (codes "]") (plain_text_is_line (names_text rules.founders) (word_is_plain_text (names_text rules.founders) (names_text_is_word rules.founders))) refl

numbers_line : (rules : Rules) → HasNoNewline (numbers_json rules)
unfolding numbers_json
numbers_line rules =
    appended_lines_are_line (decimal rules.pb_up_to) (codes ",\"resilience\":" ++ (decimal rules.resilience ++ (codes ",\"window\":" ++ decimal rules.window)))
    (number_line rules.pb_up_to)
    (appended_lines_are_line (decimal rules.resilience) (codes ",\"window\":" ++ decimal rules.window) (number_line rules.resilience) (number_line rules.window))

script_line : (rules : Rules) (events : List Event) → AreOfBytes events → HasNoNewline (script_text rules events)
unfolding script_text
script_line rules events bytes =
    appended_lines_are_line (events_json rules events) (codes "," ++ (founders_json rules ++ (codes "," ++ (numbers_json rules ++ codes "}}")))) (events_line rules events bytes)
    (appended_lines_are_line (founders_json rules) (codes "," ++ (numbers_json rules ++ codes "}}")) (founders_line rules)
    (appended_lines_are_line (numbers_json rules) (codes "}}") (numbers_line rules) refl))

-- ---- a text after its script

-- where lines are read, it doesn't matter which number they have
finish_at : (a b : ℕ) (s t : Reading) (rest : List ℕ) (whole : Bool) → cond whole (let r : Result Reading ℕ = Ok s in r) (Err a) ≡ Ok t
    → cond whole (let r : Result Reading ℕ = Ok s in r) (Err b) ≡ Ok t
finish_at a b s t rest true is = is
finish_at a b s t rest false is = absurd (cc)

on_at : (a b : ℕ) (r : Result Reading FieldFault) (f g : Reading → Result Reading ℕ) (t : Reading) → ((s : Reading) → f s ≡ Ok t → g s ≡ Ok t)
    → read_on a r f ≡ Ok t → read_on b r g ≡ Ok t
on_at a b (Ok s) f g t h is = h s is
on_at a b (Err fault) f g t h is = absurd (cc)

read_at : (a b : ℕ) (s t : Reading) (texts : List (List ℕ)) → read_lines a s texts ≡ Ok t → read_lines b s texts ≡ Ok t
read_at a b s t [] is = absurd (cc)
read_at a b s t (rest ∷ []) is = finish_at a b s t rest ((length rest == 0) && is_text_end s.stage) is
read_at a b s t (line ∷ next ∷ texts) is =
    on_at a b (add_line s line) (λ u. read_lines (a + 1) u (next ∷ texts)) (λ u. read_lines (b + 1) u (next ∷ texts)) t
    (λ u read. read_at (a + 1) (b + 1) u t (next ∷ texts) read) is

begins_brace : (rules : Rules) (events : List Event) (more : List ℕ) → (slice_index (script_text rules events ++ more) 0 == 123) ≡ true
unfolding script_text
begins_brace rules events more = refl

-- what is read without a brace is read after a script
behind_script : (rules : Rules) (events : List Event) (text : List ℕ) (t : Reading) → AreOfBytes events → (slice_index text 0 == 123) ≡ false
    → read_text text ≡ Ok t → read_text (script_text rules events ++ (newline ++ text)) ≡ Ok t
behind_script rules events text t bytes other is =
    let script = script_text rules events in
    let whole = script ++ 10 ∷ text in
    let read : read_lines 1 nothing_read (split_text 10 text) ≡ Ok t =
    sym (ap (λ b. cond b (read_behind (cut_of 10 text).1) (read_lines 1 nothing_read (split_text 10 text))) other) ∙ is in
    ap (λ b. cond b (read_behind (cut_of 10 whole).1) (read_lines 1 nothing_read (split_text 10 whole))) (begins_brace rules events (10 ∷ text))
    ∙ ap (λ (c : List ℕ × Option (List ℕ)). read_behind c.1) (cut_of_line_at_newline script text (script_line rules events bytes))
    ∙ read_at 1 2 nothing_read t (split_text 10 text) read

-- ---- of a run

no_brace_by : (rules : Rules) (s : Watch) (first : Entry) (others : List Entry) → s.world.group ≡ first ∷ others
    → (slice_index (text_of_watch rules s) 0 == 123) ≡ false
no_brace_by rules s first others is =
    ap (λ (group : List Entry). slice_index (play_text rules s.world.records group (logs s.world) s.broken) 0 == 123) is
    ∙ play_text_begins_without_brace rules s.world.records first others (logs s.world) s.broken

pub scripts_are_passed_over : ScriptsArePassedOver
scripts_are_passed_over rules events bytes read =
    let s = watch_run rules events in
    let begins = group_begins_with_founders_view rules events in
    let group : s.world.group ≡ founders_entry rules ∷ begins.0 = ap (λ (w : World). w.group) (watched_is_run rules events) ∙ begins.1 in
    behind_script rules events (play_text_of rules events) (reading_of rules s) bytes (no_brace_by rules s (founders_entry rules) begins.0 group) read
