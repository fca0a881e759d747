-- The value of a script is read as that script.
use Rattle.std.proofs.Common.{◌≡◌, ℕ, zero, suc, ◌<◌, ◌≤◌, ◌==◌, ◌+◌, ◌-◌, ◌*◌, ◌/◌, ◌%◌, List, [], ◌∷◌, ◌++◌, Bool, true, false, if◌then◌else◌, Ok, codes, refl, sym, ap, ◌∙◌, arith, length, slice_index, All, EachIndex, append_assoc, nat_le, nat_lt, ◌&&◌, String, string_bytes, subst}
use Rattle.std.proofs.Math.ListN.{replicate}
use Rattle.std.proofs.Math.Seq.{set-append_seam, get_or-append_seam}
use Rattle.std.specs.List.{flat_map, list_all}
use Rattle.std.specs.Fmt.{digit_glyph}
use Rattle.std.specs.Str.{IsUtf8}
use Rattle.std.proofs.lemmas.Bool.{le-leb, eqb-true, ltb-true, ltb-false}
use Rattle.std.proofs.Math.Bool.{or-true}
use Rattle.std.proofs.lemmas.List.{length-append}
use Rattle.std.proofs.lemmas.List.Elements.{All-head, All-tail}
use Rattle.hex.specs.Hex.{IsBytes, decode_of, lower_digits}
use Rattle.hex.proofs.HexLemmas.{decode_of-encode_lower, length-encode_with}
use Rattle.am_script_defs.proofs.Digits.{encode_lower_is_hex_bytes}
use Rattle.std.proofs.lemmas.Str.{is_utf8-from_IsUtf8, IsUtf8-string_bytes}
use Rattle.std.proofs.lemmas.List.Sums.{count_by-le-length}
use Rattle.serde_json.specs.Events.{items_len}
use Rattle.serde_json.specs.Data.{object, array, string, no_members, member}
use Rattle.am_base.specs.Most.{greatest_number, most_bytes_of_body, most_bytes_of_packet, greatest_window}
use Rattle.am_base.specs.Founding.{Rules, MayFound}
use Rattle.am_base.specs.Names.{place_of_name, life_of_name, name_of_place_and_life, names_from, names_of, empty_set_of_names, has, with_name, size}
use Rattle.am_group.specs.declared.event.Act.{Act}
use Rattle.am_group.specs.declared.event.Act.TheVariants as acts
use Rattle.am_group.specs.declared.event.Event.{Event}
use Rattle.am_group_defs.specs.Text.{hex_byte, act_word}
use Rattle.am_script_defs.specs.declared.key.ScriptKey.{ScriptKey}
use Rattle.am_script_defs.specs.declared.key.ScriptKey.TheVariants as key
use Rattle.am_script_defs.specs.Events.{kind_of_word, event_kind_in, event_as, event_from, events_from, send_in, reset_in, give_up_in, cut_in, act_in}
use Rattle.am_script_defs.specs.Founders.{each_founder, founders_from, founding_in}
use Rattle.am_script_defs.specs.Scripts.{script_of, play_from, parts_of_play, behind, document_from, document_in, script_reading}
use Rattle.am_script_defs.specs.Limits.{ScriptIsWithin, EventWithin, ActWithin}
use Rattle.am_script_defs.specs.Values.{items_read_from, number_within, body_from, is_digit}
use Rattle.am_script_defs.proofs.Documents.{number_of_script_as_data, data_of_script_event, items_of_script_events, items_of_script_places, data_of_script_play, document_of_script}
use Rattle.am_script_defs.specs.Schedules.{IsOfBytes, AreOfBytes, script_text}
use Rattle.am_script_defs.proofs.Written.{names_from_length_is_size}
use Rattle.am_script_defs.proofs.ReadBack.{script_text_reads_as_document}

-- ---- numbers

within : (key : ScriptKey) (place least most n : ℕ) → least ≤ n → n ≤ most → number_within key place least most (number_of_script_as_data n) ≡ Ok n
unfolding number_within
within key place least most n low high = rw (le-leb least n low, le-leb n most high) refl

seat_within : (key : ScriptKey) (place n : ℕ) → n < 16 → number_within key place 0 15 (number_of_script_as_data (n % 16)) ≡ Ok n
seat_within key place n h =
    let same : n % 16 ≡ n = omega (arith, h) in
    rw same (within key place 0 15 n (omega arith) (omega (arith, h)))

-- ---- a body

digit_in : (d : ℕ) (low : Bool) → nat_lt d 10 ≡ low → d < 16 → is_digit (if low then 48 + d else 87 + d) ≡ true
digit_in d true is few =
    let low : d < 10 = ltb-true d 10 is in
    rw (le-leb 48 (48 + d) (omega arith), le-leb (48 + d) 57 (omega (arith, low))) refl
digit_in d false is few =
    let high : 10 ≤ d = ltb-false d 10 is in
    rw (le-leb 97 (87 + d) (omega (arith, high)), le-leb (87 + d) 102 (omega (arith, few))) (or-true (nat_le 48 (87 + d) && nat_le (87 + d) 57))

glyph_digit : (d : ℕ) → d < 16 → is_digit (digit_glyph false d) ≡ true
glyph_digit d few = digit_in d (nat_lt d 10) refl few

hex_digits : (bytes : List ℕ) → IsBytes bytes → list_all is_digit (flat_map hex_byte bytes) ≡ true
hex_digits [] h = refl
hex_digits (b ∷ bytes) h =
    let low = h 0 in
    rw (glyph_digit (b / 16) (omega (arith, low)), glyph_digit (b % 16) (omega arith)) (hex_digits bytes (λ i. h (suc i)))

hex_length : (bytes : List ℕ) → IsBytes bytes → length (flat_map hex_byte bytes) ≡ 2 * length bytes
hex_length bytes h = ap length (sym (encode_lower_is_hex_bytes bytes h)) ∙ length-encode_with lower_digits bytes

body_again : (number : ℕ) (bytes : List ℕ) → IsBytes bytes → length bytes ≤ most_bytes_of_body → body_from number (flat_map hex_byte bytes) ≡ Ok bytes
unfolding body_from
body_again number bytes h few =
    let long = hex_length bytes h in
    let even : length (flat_map hex_byte bytes) % 2 ≡ 0 = omega (arith, long) in
    let half : length (flat_map hex_byte bytes) / 2 ≤ most_bytes_of_body = omega (arith, long, few) in
    let same : decode_of (flat_map hex_byte bytes) ≡ Ok bytes = ap decode_of (sym (encode_lower_is_hex_bytes bytes h)) ∙ decode_of-encode_lower bytes h in
    rw (same, even, hex_digits bytes h, le-leb (length (flat_map hex_byte bytes) / 2) most_bytes_of_body half) refl

-- ---- an event

resets_again : (rules : Rules) (number node least r : ℕ) (b : Bool) → (r == rules.resilience) ≡ b → node < 16 → (0 < least) × (least ≤ 16) × (r ≤ 15)
    → event_from rules.resilience number (object (member (codes "do") (string (codes "reset")) (member (codes "least") (number_of_script_as_data least)
    (member (codes "node") (number_of_script_as_data (node % 16)) (if b then no_members else member (codes "resilience") (number_of_script_as_data r) no_members)))))
    ≡ Ok (record { node = node; act = acts.Reset least r })
unfolding event_from event_kind_in kind_of_word event_as act_in reset_in
resets_again rules number node least r true same h limits =
    let is : r ≡ rules.resilience = eqb-true r rules.resilience same in
    rw (seat_within key.Node number node h, within key.Least number 1 16 least limits.0 limits.1, sym is) refl
resets_again rules number node least r false same h limits =
    rw (seat_within key.Node number node h, within key.Least number 1 16 least limits.0 limits.1, within key.Resilience number 0 15 r (omega arith) limits.2) refl

gives_up_again : (founding number node name : ℕ) (b : Bool) → (life_of_name name == 1) ≡ b → node < 16 → name < 256
    → event_from founding number (object (member (codes "do") (string (codes "giveup"))
    (if b then member (codes "name") (number_of_script_as_data (name % 16)) (member (codes "node") (number_of_script_as_data (node % 16)) no_members)
    else member (codes "life") (number_of_script_as_data (name / 16 + 1)) (member (codes "name") (number_of_script_as_data (name % 16)) (member (codes "node") (number_of_script_as_data (node % 16)) no_members)))))
    ≡ Ok (record { node = node; act = acts.GiveUp name })
unfolding event_from event_kind_in kind_of_word event_as act_in give_up_in
gives_up_again founding number node name true same h few =
    let one : life_of_name name ≡ 1 = eqb-true (life_of_name name) 1 same in
    let is : name % 16 + 16 * (1 - 1) ≡ name = omega (arith, one) in
    rw (seat_within key.Node number node h, within key.Name number 0 15 (name % 16) (omega arith) (omega arith)) (ap (λ (n : ℕ). Ok (record { node = node; act = acts.GiveUp n })) is)
gives_up_again founding number node name false same h few =
    let is : name % 16 + 16 * (name / 16 + 1 - 1) ≡ name = omega arith in
    rw (seat_within key.Node number node h, within key.Name number 0 15 (name % 16) (omega arith) (omega arith), within key.Life number 1 16 (name / 16 + 1) (omega arith) (omega (arith, few)))
    (ap (λ (n : ℕ). Ok (record { node = node; act = acts.GiveUp n })) is)

event_again : (rules : Rules) (number node : ℕ) (act : Act) → node < 16 → ActWithin act → IsOfBytes act
    → event_from rules.resilience number (data_of_script_event rules (record { node = node; act = act })) ≡ Ok (record { node = node; act = act })
unfolding event_from event_kind_in kind_of_word event_as act_in send_in cut_in act_word
event_again rules number node (acts.Send body) h w bytes = rw (seat_within key.Node number node h, body_again number body bytes w) refl
event_again rules number node (acts.Done req) h w bytes = rw (seat_within key.Node number node h, within key.Req number 1 greatest_number req w.0 w.1) refl
event_again rules number node acts.Take h w bytes = rw (seat_within key.Node number node h) refl
event_again rules number node acts.Join h w bytes = rw (seat_within key.Node number node h) refl
event_again rules number node acts.State h w bytes = rw (seat_within key.Node number node h) refl
event_again rules number node acts.Leave h w bytes = rw (seat_within key.Node number node h) refl
event_again rules number node (acts.Reset least resilience) h w bytes = resets_again rules number node least resilience (resilience == rules.resilience) refl h w
event_again rules number node (acts.Ask round) h w bytes = rw (seat_within key.Node number node h, within key.Round number 1 greatest_number round w.0 w.1) refl
event_again rules number node (acts.GiveUp name) h w bytes = gives_up_again rules.resilience number node name (life_of_name name == 1) refl h w
event_again rules number node acts.Stop h w bytes = rw (seat_within key.Node number node h) refl
event_again rules number node acts.Tick h w bytes = rw (seat_within key.Node number node h) refl
event_again rules number node (acts.Hear packet) h w bytes = rw (seat_within key.Node number node h, within key.Packet number 1 greatest_number packet w.0 w.1) refl
event_again rules number node (acts.Cut packet keep) h w bytes =
    rw (seat_within key.Node number node h, within key.Packet number 1 greatest_number packet w.0.0 w.0.1, within key.Keep number 0 most_bytes_of_packet keep (omega arith) w.1) refl
event_again rules number node acts.Return h w bytes = rw (seat_within key.Node number node h) refl

each_again : (rules : Rules) (number : ℕ) (events : List Event) → All EventWithin events → AreOfBytes events
    → items_read_from (event_from rules.resilience) number (items_of_script_events rules events) ≡ Ok events
each_again rules number [] w bytes = refl
each_again rules number (event ∷ events) w bytes =
    let one = All-head EventWithin event events w in
    rw (
      event_again rules number event.node event.act one.0 one.1 (All-head (λ e. IsOfBytes e.act) event events bytes),
      each_again rules (number + 1) events (All-tail EventWithin event events w) (All-tail (λ e. IsOfBytes e.act) event events bytes),
    ) refl

-- ---- founders

founders_again : (before lives : List ℕ) (place : ℕ) → length before ≡ place → place + length lives ≡ 16 → EachIndex lives (λ k. slice_index lives k ≤ 1)
    → each_founder (before ++ replicate (length lives) 0) (items_of_script_places (names_from place lives)) ≡ Ok (before ++ lives)
founders_again before [] place at sum first = refl
founders_again before (zero ∷ lives) place at sum first =
    let longer = before ++ 0 ∷ [] in
    let long : length longer ≡ place + 1 = length-append before (0 ∷ []) ∙ ap (λ (n : ℕ). n + 1) at in
    let rest = founders_again longer lives (place + 1) long (omega (arith, sum)) (λ k h. first (suc k) (omega (arith, h))) in
    ap (λ s. each_founder s (items_of_script_places (names_from (place + 1) lives))) (sym (append_assoc before (0 ∷ []) (replicate (length lives) 0)))
    ∙ rest ∙ ap Ok (append_assoc before (0 ∷ []) lives)
founders_again before (suc zero ∷ lives) place at sum first =
    let zeros : List ℕ = replicate (length lives) 0 in let longer = before ++ 1 ∷ [] in
    let long : length longer ≡ place + 1 = length-append before (1 ∷ []) ∙ ap (λ (n : ℕ). n + 1) at in
    let rest = founders_again longer lives (place + 1) long (omega (arith, sum)) (λ k h. first (suc k) (omega (arith, h))) in
    let low : place < 16 = omega (arith, sum) in
    let is : place_of_name (name_of_place_and_life place 1) ≡ place = omega (arith, low) in
    let there : place % 16 ≡ place = omega (arith, low) in
    let life : life_of_name place ≡ 1 = omega (arith, low) in
    let empty : slice_index (before ++ 0 ∷ zeros) place ≡ 0 = rw (sym at) (get_or-append_seam before 0 zeros 0) in
    let hasnt : has (before ++ 0 ∷ zeros) place ≡ false = rw (there, life, empty) refl in
    let with_it : with_name (before ++ 0 ∷ zeros) place ≡ before ++ 1 ∷ zeros = rw (there, life, sym at) (set-append_seam before 0 zeros 1) in
    rw (is, within key.Founders 0 0 15 place (omega arith) (omega (arith, low)), hasnt, with_it)
    (ap (λ s. each_founder s (items_of_script_places (names_from (place + 1) lives))) (sym (append_assoc before (1 ∷ []) zeros))
    ∙ rest ∙ ap Ok (append_assoc before (1 ∷ []) lives))
founders_again before (suc (suc life) ∷ lives) place at sum first = absurd (omega (arith, first 0 (omega arith)))

places_count : (names : List ℕ) → items_len (items_of_script_places names) ≡ length names
places_count [] = refl
places_count (name ∷ names) = ap suc (places_count names)

some_founders : (rules : Rules) → MayFound rules → founders_from (array (items_of_script_places (names_of rules.founders))) ≡ Ok rules.founders
unfolding founders_from
some_founders rules may =
    let lives = rules.founders in
    let many : items_len (items_of_script_places (names_of lives)) ≡ size lives = places_count (names_of lives) ∙ names_from_length_is_size 0 lives in
    let most : size lives ≤ length lives = count_by-le-length (λ life. nat_lt 0 life) lives in
    let zeros : empty_set_of_names ≡ replicate (length lives) 0 = rw may.names.places refl in
    rw (many, le-leb 1 (size lives) may.somebody, le-leb (size lives) 16 (omega (arith, most, may.names.places)), zeros)
    (founders_again [] lives 0 refl (omega (arith, may.names.places)) may.first_lives)

-- ---- the whole

play_again : (rules : Rules) (events : List Event) → ScriptIsWithin rules events → AreOfBytes events
    → play_from (data_of_script_play rules events) ≡ Ok (script_of rules events false)
unfolding play_from parts_of_play founding_in events_from
play_again rules events w bytes =
    let may = w.may_found in
    rw (
      some_founders rules may,
      within key.Resilience 0 0 15 rules.resilience (omega arith) may.resilience_within,
      within key.Window 0 1 greatest_window rules.window may.window_least may.window_most,
      within key.PbUpTo 0 0 most_bytes_of_body rules.pb_up_to (omega arith) may.pb_up_to_within,
      each_again rules 1 events w.each bytes,
    ) refl

again : (rules : Rules) (events : List Event) → ScriptIsWithin rules events → AreOfBytes events → IsUtf8 (script_text rules events)
    → script_reading (script_text rules events) ≡ Ok (script_of rules events false)
unfolding script_reading document_from behind document_in document_of_script
again rules events w bytes utf8 =
    rw (is_utf8-from_IsUtf8 (script_text rules events) utf8, script_text_reads_as_document rules events w) (rw (play_again rules events w bytes) refl)

pub script_read_from_its_text : {Z : Type 0} (text : String Z) (rules : Rules) (events : List Event) → string_bytes text ≡ script_text rules events
    → ScriptIsWithin rules events → AreOfBytes events → script_reading (string_bytes text) ≡ Ok (script_of rules events false)
script_read_from_its_text text rules events same w bytes =
    ap script_reading same ∙ again rules events w bytes (subst IsUtf8 same (IsUtf8-string_bytes text))
