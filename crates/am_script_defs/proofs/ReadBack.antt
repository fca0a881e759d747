-- The text of a script reads as its value.
use Rattle.std.proofs.Common.{◌≡◌, ℕ, ◌<◌, ◌≤◌, ◌==◌, ◌^◌, ◌%◌, List, [], ◌∷◌, Bool, true, false, if◌then◌else◌, Option, Some, option_and_then, codes, refl, sym, ap, ◌∙◌, arith, All, append-nil}
use Rattle.std.proofs.lemmas.List.Elements.{All-head, All-tail}
use Rattle.json.specs.Json as json
use Rattle.json.specs.Tree.{HasNumbers, ItemsHaveNumbers, MembersHaveNumbers, json_tokens}
use Rattle.json.specs.Tree as tree
use Rattle.json.specs.Lex.{tokens}
use Rattle.json.proofs.Printed.Trees.{value-json_tokens, ArePrintable-json_tokens}
use Rattle.json.proofs.Printed.Tokens.{tokens-print}
use Rattle.json.specs.Token.{Token}
use Rattle.json.proofs.Printed.Decimals.{IsNumber-decimal}
use Rattle.json.proofs.OnLiterals.{json_on_literals}
use Rattle.serde_json.specs.Data.{Data, string, object, no_members, member, put}
use Rattle.serde_json.specs.Read.{read, max_depth, of_json, of_items}
use Rattle.serde_json.specs.Written.{compact_text, outline, items_outline}
use Rattle.serde_json.proofs.Numbers.{number_of-decimal}
use Rattle.serde_json.proofs.Texts.{print-outline}
use Rattle.am_base.specs.Most.{greatest_number}
use Rattle.am_base.specs.Founding.{Rules}
use Rattle.am_base.specs.Names.{place_of_name, life_of_name, names_of}
use Rattle.am_group.specs.declared.event.Act.{Act}
use Rattle.am_group.specs.declared.event.Act.TheVariants as acts
use Rattle.am_group.specs.declared.event.Event.{Event}
use Rattle.am_group_defs.specs.Text.{act_word}
use Rattle.am_script_defs.specs.Schedules.{script_text}
use Rattle.am_script_defs.specs.Limits.{ScriptIsWithin, EventWithin, ActWithin}
use Rattle.am_script_defs.proofs.Documents.{number_of_script_as_data, data_of_script_event, items_of_script_events, items_of_script_places, document_of_script}
use Rattle.am_script_defs.proofs.Written.{compact_text_of_document}

-- ---- any value whose numbers read back

record ReadsBack (d : Data) : Type 0 where
  pub numbers : HasNumbers (outline d)
  pub shallow : tree.depth (outline d) ≤ max_depth
  pub same : of_json (outline d) ≡ Some d

read_text : (d : Data) → ReadsBack d → read (compact_text d) ≡ Some d
read_text d r =
    let j = outline d in
    let whole : Option (json.Json × List Token) → Option Data = λ o. option_and_then of_json (option_and_then (λ p. json.if_last p.0 p.1) o) in
    ap (λ ts. whole (json.value max_depth ts))
    (ap tokens (sym (print-outline d)) ∙ tokens-print (json_tokens j) (ArePrintable-json_tokens j r.numbers) ∙ sym (append-nil (json_tokens j)))
    ∙ ap whole (value-json_tokens j max_depth [] r.shallow) ∙ r.same

-- ---- a count

small : (n : ℕ) → n ≤ greatest_number → n < 2 ^ 64
small n h = omega (arith, h)

-- ---- an event

record Reads (d : Data) : Type 0 where
  numbers : HasNumbers (outline d)
  shallow : tree.depth (outline d) ≤ 1
  same : of_json (outline d) ≡ Some d

-- the place of a node
seat : (place : ℕ) → place % 16 < 2 ^ 64
seat place = omega arith

-- an event with nothing but its word and its node
worded : (word : List ℕ) (place : ℕ) → Reads (object (member (codes "do") (string word) (member (codes "node") (number_of_script_as_data (place_of_name place)) no_members)))
unfolding json_on_literals
worded word place =
    let p = seat place in
    record { numbers = (tt, (IsNumber-decimal (place % 16) p, tt)); shallow = omega arith; same = rw (number_of-decimal (place % 16) p) refl }

-- with a number after its node
numbered : (word : List ℕ) (place n : ℕ) (key : List ℕ) → n < 2 ^ 64
    → ((d : Data) → put key d (member (codes "do") (string word) (member (codes "node") (number_of_script_as_data (place_of_name place)) no_members))
    ≡ member (codes "do") (string word) (member (codes "node") (number_of_script_as_data (place_of_name place)) (member key d no_members)))
    → Reads (object (member (codes "do") (string word) (member (codes "node") (number_of_script_as_data (place_of_name place)) (member key (number_of_script_as_data n) no_members))))
unfolding json_on_literals
numbered word place n key h last =
    let p = seat place in
    record {
      numbers = (tt, (IsNumber-decimal (place % 16) p, (IsNumber-decimal n h, tt)));
      shallow = omega arith;
      same = rw (number_of-decimal (place % 16) p, number_of-decimal n h) (ap (λ ms. Some (object ms)) (last (number_of_script_as_data n)));
    }

sends : (place : ℕ) (hex : List ℕ) → Reads (object (member (codes "body") (string hex) (member (codes "do") (string (codes "send")) (member (codes "node") (number_of_script_as_data (place_of_name place)) no_members))))
unfolding json_on_literals
sends place hex =
    let p = seat place in
    record { numbers = (tt, (tt, (IsNumber-decimal (place % 16) p, tt))); shallow = omega arith; same = rw (number_of-decimal (place % 16) p) refl }

resets : (place least r : ℕ) (b : Bool) → least < 2 ^ 64 → r < 2 ^ 64 → Reads (object (member (codes "do") (string (codes "reset")) (member (codes "least") (number_of_script_as_data least)
    (member (codes "node") (number_of_script_as_data (place_of_name place)) (if b then no_members else member (codes "resilience") (number_of_script_as_data r) no_members)))))
unfolding json_on_literals
resets place least r true h k =
    let p = seat place in
    record {
      numbers = (tt, (IsNumber-decimal least h, (IsNumber-decimal (place % 16) p, tt)));
      shallow = omega arith;
      same = rw (number_of-decimal least h, number_of-decimal (place % 16) p) refl;
    }
resets place least r false h k =
    let p = seat place in
    record {
      numbers = (tt, (IsNumber-decimal least h, (IsNumber-decimal (place % 16) p, (IsNumber-decimal r k, tt))));
      shallow = omega arith;
      same = rw (number_of-decimal least h, number_of-decimal (place % 16) p, number_of-decimal r k) refl;
    }

gives_up : (place name life : ℕ) (b : Bool) → life < 2 ^ 64 → Reads (object (member (codes "do") (string (codes "giveup"))
    (if b then member (codes "name") (number_of_script_as_data (place_of_name name)) (member (codes "node") (number_of_script_as_data (place_of_name place)) no_members)
    else member (codes "life") (number_of_script_as_data life) (member (codes "name") (number_of_script_as_data (place_of_name name)) (member (codes "node") (number_of_script_as_data (place_of_name place)) no_members)))))
unfolding json_on_literals
gives_up place name life true h =
    let p = seat place in let q = seat name in
    record {
      numbers = (tt, (IsNumber-decimal (name % 16) q, (IsNumber-decimal (place % 16) p, tt)));
      shallow = omega arith;
      same = rw (number_of-decimal (name % 16) q, number_of-decimal (place % 16) p) refl;
    }
gives_up place name life false h =
    let p = seat place in let q = seat name in
    record {
      numbers = (tt, (IsNumber-decimal life h, (IsNumber-decimal (name % 16) q, (IsNumber-decimal (place % 16) p, tt))));
      shallow = omega arith;
      same = rw (number_of-decimal life h, number_of-decimal (name % 16) q, number_of-decimal (place % 16) p) refl;
    }

cuts : (place packet keep : ℕ) → packet < 2 ^ 64 → keep < 2 ^ 64 → Reads (object (member (codes "do") (string (codes "cut")) (member (codes "keep") (number_of_script_as_data keep)
    (member (codes "node") (number_of_script_as_data (place_of_name place)) (member (codes "packet") (number_of_script_as_data packet) no_members)))))
unfolding json_on_literals
cuts place packet keep h k =
    let p = seat place in
    record {
      numbers = (tt, (IsNumber-decimal keep k, (IsNumber-decimal (place % 16) p, (IsNumber-decimal packet h, tt))));
      shallow = omega arith;
      same = rw (number_of-decimal keep k, number_of-decimal (place % 16) p, number_of-decimal packet h) refl;
    }

event_reads : (rules : Rules) (place : ℕ) (act : Act) → ActWithin act → Reads (data_of_script_event rules (record { node = place; act = act }))
unfolding act_word json_on_literals
event_reads rules place (acts.Send body) h = sends place _
event_reads rules place (acts.Done req) h = numbered (codes "done") place req (codes "req") (small req h.1) (λ d. refl)
event_reads rules place acts.Take h = worded (codes "take") place
event_reads rules place acts.Join h = worded (codes "join") place
event_reads rules place acts.State h = worded (codes "state") place
event_reads rules place acts.Leave h = worded (codes "leave") place
event_reads rules place (acts.Reset least resilience) h =
    resets place least resilience (resilience == rules.resilience) (omega (arith, h.1)) (omega (arith, h.2))
event_reads rules place (acts.Ask round) h = numbered (codes "ask") place round (codes "round") (small round h.1) (λ d. refl)
event_reads rules place (acts.GiveUp name) h = gives_up place name (life_of_name name) (life_of_name name == 1) (omega (arith, h))
event_reads rules place acts.Stop h = worded (codes "stop") place
event_reads rules place acts.Tick h = worded (codes "tick") place
event_reads rules place (acts.Hear packet) h = numbered (codes "hear") place packet (codes "packet") (small packet h.1) (λ d. refl)
event_reads rules place (acts.Cut packet keep) h = cuts place packet keep (small packet h.0.1) (omega (arith, h.1))
event_reads rules place acts.Return h = worded (codes "return") place

-- ---- events

events_numbers : (rules : Rules) (events : List Event) → All EventWithin events → ItemsHaveNumbers (items_outline (items_of_script_events rules events))
events_numbers rules [] h = tt
events_numbers rules (event ∷ events) h =
    ((event_reads rules event.node event.act (All-head EventWithin event events h).1).numbers, events_numbers rules events (All-tail EventWithin event events h))

events_shallow : (rules : Rules) (events : List Event) → All EventWithin events → tree.items_depth (items_outline (items_of_script_events rules events)) ≤ 1
events_shallow rules [] h = omega arith
events_shallow rules (event ∷ events) h =
    let one = (event_reads rules event.node event.act (All-head EventWithin event events h).1).shallow in
    omega (arith, one, events_shallow rules events (All-tail EventWithin event events h))

events_same : (rules : Rules) (events : List Event) → All EventWithin events → of_items (items_outline (items_of_script_events rules events)) ≡ Some (items_of_script_events rules events)
events_same rules [] h = refl
events_same rules (event ∷ events) h =
    rw ((event_reads rules event.node event.act (All-head EventWithin event events h).1).same, events_same rules events (All-tail EventWithin event events h)) refl

-- ---- places

places_numbers : (names : List ℕ) → ItemsHaveNumbers (items_outline (items_of_script_places names))
places_numbers [] = tt
places_numbers (name ∷ names) = (IsNumber-decimal (name % 16) (seat name), places_numbers names)

places_shallow : (names : List ℕ) → tree.items_depth (items_outline (items_of_script_places names)) ≤ 0
places_shallow [] = omega arith
places_shallow (name ∷ names) = omega (arith, places_shallow names)

places_same : (names : List ℕ) → of_items (items_outline (items_of_script_places names)) ≡ Some (items_of_script_places names)
places_same [] = refl
places_same (name ∷ names) = rw (number_of-decimal (name % 16) (seat name), places_same names) refl

-- ---- the whole

whole : (rules : Rules) (events : List Event) → ScriptIsWithin rules events → ReadsBack (document_of_script rules events)
unfolding document_of_script json_on_literals
whole rules events within =
    let names = names_of rules.founders in let may = within.may_found in
    let pb : rules.pb_up_to < 2 ^ 64 = omega (arith, may.pb_up_to_within) in
    let res : rules.resilience < 2 ^ 64 = omega (arith, may.resilience_within) in
    let win : rules.window < 2 ^ 64 = omega (arith, may.window_most) in
    record {
      numbers = (
        (
          (events_numbers rules events within.each),
          (
            places_numbers names,
            (
              IsNumber-decimal rules.pb_up_to pb,
              (IsNumber-decimal rules.resilience res, (IsNumber-decimal rules.window win, tt)),
            ),
          ),
        ),
        tt,
      );
      shallow = omega (arith, events_shallow rules events within.each, places_shallow names);
      same = rw (events_same rules events within.each, places_same names, number_of-decimal rules.pb_up_to pb, number_of-decimal rules.resilience res, number_of-decimal rules.window win) refl;
    }

pub script_text_reads_as_document : (rules : Rules) (events : List Event) → ScriptIsWithin rules events → read (script_text rules events) ≡ Some (document_of_script rules events)
script_text_reads_as_document rules events within =
    ap read (sym (compact_text_of_document rules events within.may_found)) ∙ read_text (document_of_script rules events) (whole rules events within)
