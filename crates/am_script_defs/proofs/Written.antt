-- The text of a script is that of its value.
use Rattle.std.proofs.Common.{◌≡◌, ℕ, zero, suc, ◌<◌, ◌≤◌, ◌==◌, ◌+◌, ◌/◌, ◌%◌, List, [], ◌∷◌, ◌++◌, Bool, true, false, if◌then◌else◌, cond, codes, refl, sym, ap, ◌∙◌, arith, decimal, append_assoc, nat_lt, slice_index, length, EachIndex}
use Rattle.std.proofs.lemmas.List.Sums.{sum_by-cons}
use Rattle.std.proofs.lemmas.Bool.{ltb-true, ltb-false, lt-ltb}
use Rattle.std.specs.List.{flat_map}
use Rattle.std.specs.Fmt.{digit_glyph}
use Rattle.json.specs.Print.{escape_byte, escape, quoted}
use Rattle.json.proofs.Printed.Strings.{escape_byte_plain}
use Rattle.json.proofs.OnLiterals.{json_on_literals}
use Rattle.serde_json.specs.Data.{string, array, Members, no_members, member}
use Rattle.serde_json.specs.Written.{compact_text, items_text, members_text}
use Rattle.am_base.specs.Founding.{Rules, MayFound}
use Rattle.am_base.specs.Names.{place_of_name, life_of_name, names_from, names_of, size}
use Rattle.am_group.specs.declared.event.Act.{Act}
use Rattle.am_group.specs.declared.event.Act.TheVariants as acts
use Rattle.am_group.specs.declared.event.Event.{Event}
use Rattle.am_group_defs.specs.Text.{hex_byte, act_word, list_text, names_text, name_text}
use Rattle.am_script_defs.specs.Schedules.{life_json, resilience_json, body_json, keys_before, word_json, keys_behind, event_json, others_json, list_json, events_json, founders_json, numbers_json, script_text}
use Rattle.am_script_defs.proofs.Documents.{number_of_script_as_data, data_of_script_event, members_of_body_and_more, members_before_node_of_act, members_after_node_of_act, items_of_script_events, items_of_script_places, document_of_script}

-- ---- digits need no escape

glyph_in : (d : ℕ) (low : Bool) → nat_lt d 10 ≡ low → escape_byte (if low then 48 + d else 87 + d) ≡ (if low then 48 + d else 87 + d) ∷ []
glyph_in d true is =
    let low : d < 10 = ltb-true d 10 is in
    escape_byte_plain (48 + d) (λ e. omega (arith, low, e)) (λ e. omega (arith, low, e)) (omega arith)
glyph_in d false is =
    let high : 10 ≤ d = ltb-false d 10 is in
    escape_byte_plain (87 + d) (λ e. omega (arith, high, e)) (λ e. omega (arith, high, e)) (omega arith)

glyph_plain : (d : ℕ) → escape_byte (digit_glyph false d) ≡ digit_glyph false d ∷ []
glyph_plain d = glyph_in d (nat_lt d 10) refl

hex_plain : (bytes : List ℕ) → escape (flat_map hex_byte bytes) ≡ flat_map hex_byte bytes
hex_plain [] = refl
hex_plain (b ∷ bytes) =
    let high = digit_glyph false (b / 16) in let low = digit_glyph false (b % 16) in let rest = flat_map hex_byte bytes in
    ap (λ (xs : List ℕ). xs ++ (escape_byte low ++ escape rest)) (glyph_plain (b / 16))
    ∙ ap (λ (xs : List ℕ). high ∷ (xs ++ escape rest)) (glyph_plain (b % 16))
    ∙ ap (λ (xs : List ℕ). high ∷ low ∷ xs) (hex_plain bytes)

-- ---- an event

resilience_behind : (rules : Rules) (r : ℕ) (b : Bool)
    → members_text true (if b then no_members else member (codes "resilience") (number_of_script_as_data r) no_members) ≡ (if b then [] else codes ",\"resilience\":" ++ decimal r) ++ codes "}"
unfolding json_on_literals
resilience_behind rules r true = refl
resilience_behind rules r false = refl

-- what stands after the node's number
behind : (rules : Rules) (act : Act) → members_text true (members_after_node_of_act rules act) ≡ keys_behind rules act ++ codes "}"
unfolding keys_behind resilience_json json_on_literals
behind rules (acts.Done req) = refl
behind rules (acts.Reset least resilience) = resilience_behind rules resilience (resilience == rules.resilience)
behind rules (acts.Ask round) = refl
behind rules (acts.Hear packet) = refl
behind rules (acts.Cut packet keep) = refl
behind rules (acts.Send body) = refl
behind rules acts.Take = refl
behind rules acts.Join = refl
behind rules acts.State = refl
behind rules acts.Leave = refl
behind rules (acts.GiveUp name) = refl
behind rules acts.Stop = refl
behind rules acts.Tick = refl
behind rules acts.Return = refl

name_before : (name : ℕ) (rest : Members) (b : Bool) → members_text true
    (if b then member (codes "name") (number_of_script_as_data (place_of_name name)) rest else member (codes "life") (number_of_script_as_data (life_of_name name)) (member (codes "name") (number_of_script_as_data (place_of_name name)) rest))
    ≡ ((if b then [] else codes ",\"life\":" ++ decimal (life_of_name name)) ++ (codes ",\"name\":" ++ decimal (place_of_name name))) ++ members_text true rest
unfolding json_on_literals
name_before name rest true = refl
name_before name rest false =
    ap (λ (xs : List ℕ). codes ",\"life\":" ++ xs) (sym (append_assoc (decimal (life_of_name name)) (codes ",\"name\":" ++ decimal (place_of_name name)) (members_text true rest)))

-- what stands between the word and the node
before : (act : Act) (rest : Members) → members_text true (members_before_node_of_act act rest) ≡ keys_before act ++ members_text true rest
unfolding keys_before life_json json_on_literals
before (acts.Reset least resilience) rest = refl
before (acts.GiveUp name) rest = name_before name rest (life_of_name name == 1)
before (acts.Cut packet keep) rest = refl
before (acts.Done req) rest = refl
before (acts.Ask round) rest = refl
before (acts.Hear packet) rest = refl
before (acts.Send body) rest = refl
before acts.Take rest = refl
before acts.Join rest = refl
before acts.State rest = refl
before acts.Leave rest = refl
before acts.Stop rest = refl
before acts.Tick rest = refl
before acts.Return rest = refl

-- the word and what is after it, as members and as text
abbrev worded : Act → Members → List ℕ
worded act rest = quoted (codes "do") ++ 58 ∷ (quoted (act_word act) ++ members_text true (members_before_node_of_act act rest))

said : (act : Act) (rest : Members) → worded act rest ≡ word_json act ++ members_text true rest
unfolding word_json act_word json_on_literals
said (acts.Send body) rest = ap (λ (xs : List ℕ). codes "\"do\":\"send\"" ++ xs) (before (acts.Send body) rest)
said (acts.Done req) rest = ap (λ (xs : List ℕ). codes "\"do\":\"done\"" ++ xs) (before (acts.Done req) rest)
said acts.Take rest = ap (λ (xs : List ℕ). codes "\"do\":\"take\"" ++ xs) (before acts.Take rest)
said acts.Join rest = ap (λ (xs : List ℕ). codes "\"do\":\"join\"" ++ xs) (before acts.Join rest)
said acts.State rest = ap (λ (xs : List ℕ). codes "\"do\":\"state\"" ++ xs) (before acts.State rest)
said acts.Leave rest = ap (λ (xs : List ℕ). codes "\"do\":\"leave\"" ++ xs) (before acts.Leave rest)
said (acts.Reset least resilience) rest = ap (λ (xs : List ℕ). codes "\"do\":\"reset\"" ++ xs) (before (acts.Reset least resilience) rest)
said (acts.Ask round) rest = ap (λ (xs : List ℕ). codes "\"do\":\"ask\"" ++ xs) (before (acts.Ask round) rest)
said (acts.GiveUp name) rest = ap (λ (xs : List ℕ). codes "\"do\":\"giveup\"" ++ xs) (before (acts.GiveUp name) rest)
said acts.Stop rest = ap (λ (xs : List ℕ). codes "\"do\":\"stop\"" ++ xs) (before acts.Stop rest)
said acts.Tick rest = ap (λ (xs : List ℕ). codes "\"do\":\"tick\"" ++ xs) (before acts.Tick rest)
said (acts.Hear packet) rest = ap (λ (xs : List ℕ). codes "\"do\":\"hear\"" ++ xs) (before (acts.Hear packet) rest)
said (acts.Cut packet keep) rest = ap (λ (xs : List ℕ). codes "\"do\":\"cut\"" ++ xs) (before (acts.Cut packet keep) rest)
said acts.Return rest = ap (λ (xs : List ℕ). codes "\"do\":\"return\"" ++ xs) (before acts.Return rest)

-- the node and what is after it
node : (rules : Rules) (event : Event) → members_text true (member (codes "node") (number_of_script_as_data (place_of_name event.node)) (members_after_node_of_act rules event.act))
    ≡ codes ",\"node\":" ++ (decimal (place_of_name event.node) ++ (keys_behind rules event.act ++ codes "}"))
unfolding json_on_literals
node rules event = ap (λ (xs : List ℕ). codes ",\"node\":" ++ (decimal (place_of_name event.node) ++ xs)) (behind rules event.act)

-- a body before the word
bodied : (act : Act) (rest : Members) → members_text false (members_of_body_and_more act (member (codes "do") (string (act_word act)) (members_before_node_of_act act rest))) ≡ body_json act ++ worded act rest
unfolding body_json json_on_literals
bodied (acts.Send body) rest =
    let hex = flat_map hex_byte body in let tail = 44 ∷ worded (acts.Send body) rest in
    ap (λ (xs : List ℕ). codes "\"body\":\"" ++ ((xs ++ 34 ∷ []) ++ tail)) (hex_plain body)
    ∙ ap (λ (xs : List ℕ). codes "\"body\":\"" ++ xs) (append_assoc hex (34 ∷ []) tail ∙ sym (append_assoc hex (codes "\",") (worded (acts.Send body) rest)))
bodied (acts.Done req) rest = refl
bodied acts.Take rest = refl
bodied acts.Join rest = refl
bodied acts.State rest = refl
bodied acts.Leave rest = refl
bodied (acts.Reset least resilience) rest = refl
bodied (acts.Ask round) rest = refl
bodied (acts.GiveUp name) rest = refl
bodied acts.Stop rest = refl
bodied acts.Tick rest = refl
bodied (acts.Hear packet) rest = refl
bodied (acts.Cut packet keep) rest = refl
bodied acts.Return rest = refl

event_written : (rules : Rules) (event : Event) → compact_text (data_of_script_event rules event) ≡ event_json rules event
unfolding event_json
event_written rules event =
    let rest = member (codes "node") (number_of_script_as_data (place_of_name event.node)) (members_after_node_of_act rules event.act) in
    ap (λ (xs : List ℕ). 123 ∷ xs) (bodied event.act rest
    ∙ ap (λ (xs : List ℕ). body_json event.act ++ xs) (said event.act rest ∙ ap (λ (xs : List ℕ). word_json event.act ++ xs) (node rules event)))

-- ---- a list of them

others_written : (rules : Rules) (events : List Event) → items_text true (items_of_script_events rules events) ≡ others_json rules events ++ codes "]"
others_written rules [] = refl
others_written rules (event ∷ events) =
    ap (λ (xs : List ℕ). 44 ∷ (xs ++ items_text true (items_of_script_events rules events))) (event_written rules event)
    ∙ ap (λ (xs : List ℕ). 44 ∷ (event_json rules event ++ xs)) (others_written rules events)
    ∙ ap (λ (xs : List ℕ). 44 ∷ xs) (sym (append_assoc (event_json rules event) (others_json rules events) (codes "]")))

events_written : (rules : Rules) (events : List Event) → items_text false (items_of_script_events rules events) ≡ list_json rules events ++ codes "]"
unfolding list_json
events_written rules [] = refl
events_written rules (event ∷ events) =
    ap (λ (xs : List ℕ). xs ++ items_text true (items_of_script_events rules events)) (event_written rules event)
    ∙ ap (λ (xs : List ℕ). event_json rules event ++ xs) (others_written rules events)
    ∙ sym (append_assoc (event_json rules event) (others_json rules events) (codes "]"))

-- ---- places

-- names of life 1 are their places
abbrev AreFirst : List ℕ → Type 0
AreFirst [] = Unit {0}
AreFirst (name ∷ names) = (life_of_name name ≡ 1) × AreFirst names

name_is : (name : ℕ) → life_of_name name ≡ 1 → decimal (place_of_name name) ≡ name_text name
unfolding name_text
name_is name is = rw is refl

other_places : (names : List ℕ) → AreFirst names → items_text true (items_of_script_places names) ≡ flat_map (λ name. codes "," ++ name_text name) names ++ codes "]"
other_places [] first = refl
other_places (name ∷ names) first =
    ap (λ (xs : List ℕ). 44 ∷ (xs ++ items_text true (items_of_script_places names))) (name_is name first.0)
    ∙ ap (λ (xs : List ℕ). 44 ∷ (name_text name ++ xs)) (other_places names first.1)
    ∙ ap (λ (xs : List ℕ). 44 ∷ xs) (sym (append_assoc (name_text name) (flat_map (λ n. codes "," ++ name_text n) names) (codes "]")))

places_written : (names : List ℕ) → AreFirst names → 0 < length names → items_text false (items_of_script_places names) ≡ list_text names ++ codes "]"
places_written [] first some = absurd (omega arith)
places_written (name ∷ names) first some =
    ap (λ (xs : List ℕ). xs ++ items_text true (items_of_script_places names)) (name_is name first.0)
    ∙ ap (λ (xs : List ℕ). name_text name ++ xs) (other_places names first.1)
    ∙ sym (append_assoc (name_text name) (flat_map (λ n. codes "," ++ name_text n) names) (codes "]"))

-- the names of a set of first lives, of which there is one
first_from : (place : ℕ) (set : List ℕ) → EachIndex set (λ k. slice_index set k ≤ 1) → place + length set ≤ 16 → AreFirst (names_from place set)
first_from place [] lives few = tt
first_from place (zero ∷ set) lives few = first_from (place + 1) set (λ k h. lives (suc k) (omega (arith, h))) (omega (arith, few))
first_from place (suc life ∷ set) lives few =
    let one : life ≤ 0 = omega (arith, lives 0 (omega arith)) in
    (omega (arith, few, one), first_from (place + 1) set (λ k h. lives (suc k) (omega (arith, h))) (omega (arith, few)))

pub names_from_length_is_size : (place : ℕ) (set : List ℕ) → length (names_from place set) ≡ size set
names_from_length_is_size place [] = refl
names_from_length_is_size place (zero ∷ set) =
    let more : size (0 ∷ set) ≡ 0 + size set = sum_by-cons (λ x. cond (nat_lt 0 x) 1 0) 0 set in
    omega (arith, more, names_from_length_is_size (place + 1) set)
names_from_length_is_size place (suc life ∷ set) =
    let more : size (suc life ∷ set) ≡ cond (nat_lt 0 (suc life)) 1 0 + size set = sum_by-cons (λ x. cond (nat_lt 0 x) 1 0) (suc life) set in
    let one : ◌≡◌ {A = ℕ} (cond (nat_lt 0 (suc life)) 1 0) 1 = ap (λ (b : Bool). cond b 1 0) (lt-ltb 0 (suc life) (omega arith)) in
    omega (arith, more, one, names_from_length_is_size (place + 1) set)

-- ---- the whole

numbers_written : (rules : Rules) → members_text true (member (codes "pb_up_to") (number_of_script_as_data rules.pb_up_to)
    (member (codes "resilience") (number_of_script_as_data rules.resilience) (member (codes "window") (number_of_script_as_data rules.window) no_members)))
    ≡ codes "," ++ (numbers_json rules ++ codes "}")
unfolding numbers_json json_on_literals
numbers_written rules =
    ap (λ (xs : List ℕ). codes ",\"pb_up_to\":" ++ xs)
    (ap (λ (xs : List ℕ). decimal rules.pb_up_to ++ xs)
    (ap (λ (xs : List ℕ). codes ",\"resilience\":" ++ xs) (sym (append_assoc (decimal rules.resilience) (codes ",\"window\":" ++ decimal rules.window) (codes "}"))))
    ∙ sym (append_assoc (decimal rules.pb_up_to) (codes ",\"resilience\":" ++ (decimal rules.resilience ++ (codes ",\"window\":" ++ decimal rules.window))) (codes "}")))

founders_written : (rules : Rules) → MayFound rules → items_text false (items_of_script_places (names_of rules.founders)) ≡ names_text rules.founders ++ codes "]"
unfolding names_text
founders_written rules may =
    places_written (names_of rules.founders)
    (first_from 0 rules.founders may.first_lives (omega (arith, may.names.places)))
    (omega (arith, names_from_length_is_size 0 rules.founders, may.somebody))

-- after the events
abbrev ending : Rules → List ℕ
ending rules = codes "," ++ (founders_json rules ++ (codes "," ++ (numbers_json rules ++ codes "}}")))

behind_events : (rules : Rules) → MayFound rules → members_text true (member (codes "founders") (array (items_of_script_places (names_of rules.founders)))
    (member (codes "pb_up_to") (number_of_script_as_data rules.pb_up_to) (member (codes "resilience") (number_of_script_as_data rules.resilience) (member (codes "window") (number_of_script_as_data rules.window) no_members))))
    ++ codes "}" ≡ ending rules
unfolding founders_json json_on_literals
behind_events rules may =
    let numbers = members_text true (member (codes "pb_up_to") (number_of_script_as_data rules.pb_up_to)
    (member (codes "resilience") (number_of_script_as_data rules.resilience) (member (codes "window") (number_of_script_as_data rules.window) no_members))) in
    let names = names_text rules.founders in let digits = numbers_json rules in
    ap (λ (xs : List ℕ). codes ",\"founders\":[" ++ ((xs ++ numbers) ++ codes "}")) (founders_written rules may)
    ∙ ap (λ (xs : List ℕ). codes ",\"founders\":[" ++ (((names ++ codes "]") ++ xs) ++ codes "}")) (numbers_written rules)
    ∙ ap (λ (xs : List ℕ). codes ",\"founders\":[" ++ xs)
    (append_assoc (names ++ codes "]") (codes "," ++ (digits ++ codes "}")) (codes "}")
    ∙ ap (λ (xs : List ℕ). (names ++ codes "]") ++ (codes "," ++ xs)) (append_assoc digits (codes "}") (codes "}")))

pub compact_text_of_document : (rules : Rules) (events : List Event) → MayFound rules → compact_text (document_of_script rules events) ≡ script_text rules events
unfolding document_of_script script_text events_json json_on_literals
compact_text_of_document rules events may =
    let rest = members_text true (member (codes "founders") (array (items_of_script_places (names_of rules.founders)))
    (member (codes "pb_up_to") (number_of_script_as_data rules.pb_up_to) (member (codes "resilience") (number_of_script_as_data rules.resilience) (member (codes "window") (number_of_script_as_data rules.window) no_members)))) in
    let list = list_json rules events in
    ap (λ (xs : List ℕ). codes "{\"play\":{\"events\":[" ++ ((xs ++ rest) ++ codes "}")) (events_written rules events)
    ∙ ap (λ (xs : List ℕ). codes "{\"play\":{\"events\":[" ++ xs)
    (append_assoc (list ++ codes "]") rest (codes "}") ∙ ap (λ (xs : List ℕ). (list ++ codes "]") ++ xs) (behind_events rules may))
