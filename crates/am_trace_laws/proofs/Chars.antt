-- What is printed of events and entries has no newline and no mark in it.
use Rattle.am_trace_laws.proofs.Words.{◌≡◌, ℕ, ◌+◌, ◌==◌, ◌&&◌, ◌||◌, not, Bool, true, false, cond, List, [], ◌∷◌, ◌++◌, refl, ap, ◌∙◌, Option, Some, None, codes}
use Rattle.am_trace_laws.proofs.Words.{decimal, slice_index, drop, list_all, append-nil, Rules, place_of_name, Stamp, Entry, Outcome, IsBytes, Letter, Packet, Act}
use Rattle.am_trace_laws.proofs.Words.{Event, onto_cut, name_text, stamp_text, names_text, body_text, resilience_text, entry_text, outcome_word, numbers_text}
use Rattle.am_trace_laws.proofs.Words.{outcome_numbers, outcome_parts, outcome_text, act_word, act_parts, event_text, kind_word, is_everybody_else}
use Rattle.am_trace_laws.proofs.Words.{addressees_text, letter_text, letters_text, IsOfBytes, begins_mark, mark_cut, HasNoNewline, byte_is_plain, TextIsWord, TextIsPlain, and_true_gives_both}
use Rattle.am_trace_laws.proofs.Words.{list_all_of_append, list_all_of_weaker_test, word_is_plain_text, appended_plain_texts_are_plain, decimal_is_word, name_text_is_word, stamp_text_is_word, names_text_is_word, body_text_is_word}
use Rattle.am_base.specs.declared.entry.Entry.TheVariants as entries
use Rattle.am_base.specs.declared.outcome.Outcome.TheVariants as said
use Rattle.am_packet.specs.declared.packet.Packet.TheVariants as packets
use Rattle.am_group.specs.declared.event.Act.TheVariants as acts
use Rattle.std.proofs.lemmas.Bool.{not-true}

-- ---- entries

number_plain : (n : ℕ) → TextIsPlain (decimal n)
number_plain n = word_is_plain_text (decimal n) (decimal_is_word n)

name_plain : (name : ℕ) → TextIsPlain (name_text name)
name_plain name = word_is_plain_text (name_text name) (name_text_is_word name)

stamp_plain : (stamp : Stamp) → TextIsPlain (stamp_text stamp)
stamp_plain stamp = word_is_plain_text (stamp_text stamp) (stamp_text_is_word stamp)

set_plain : (set : List ℕ) → TextIsPlain (names_text set)
set_plain set = word_is_plain_text (names_text set) (names_text_is_word set)

resilience_by : (b : Bool) (resilience : ℕ) → TextIsPlain (cond b [] (codes " r" ++ decimal resilience))
resilience_by true resilience = refl
resilience_by false resilience = appended_plain_texts_are_plain (codes " r") (decimal resilience) refl (number_plain resilience)

resilience_plain : (rules : Rules) (resilience : ℕ) → TextIsPlain (resilience_text rules resilience)
unfolding resilience_text
resilience_plain rules resilience = resilience_by (resilience == rules.resilience) resilience

-- the body of a send is bytes
abbrev pub EntryBodyIsBytes : Entry → Type 0
EntryBodyIsBytes (entries.Data from req body) = IsBytes body
EntryBodyIsBytes _ = Unit {0}

pub entry_text_is_plain : (rules : Rules) (entry : Entry) → EntryBodyIsBytes entry → TextIsPlain (entry_text rules entry)
unfolding entry_text
entry_text_is_plain rules (entries.Data from req body) bytes =
    appended_plain_texts_are_plain (name_text from) (codes " " ++ (decimal req ++ (codes " " ++ body_text body))) (name_plain from)
    (appended_plain_texts_are_plain (decimal req) (codes " " ++ body_text body) (number_plain req) (word_is_plain_text (body_text body) (body_text_is_word body bytes)))
entry_text_is_plain rules (entries.Join name) bytes = name_plain name
entry_text_is_plain rules (entries.Leave name) bytes = name_plain name
entry_text_is_plain rules (entries.View v) bytes =
    appended_plain_texts_are_plain (stamp_text v.stamp) (codes " " ++ (names_text v.members ++ resilience_text rules v.resilience)) (stamp_plain v.stamp)
    (appended_plain_texts_are_plain (names_text v.members) (resilience_text rules v.resilience) (set_plain v.members) (resilience_plain rules v.resilience))

-- ---- outcomes

pub outcome_is_word : (outcome : Outcome) → TextIsWord (outcome_word outcome)
unfolding outcome_word
outcome_is_word (said.Queued req) = refl
outcome_is_word _ = refl

numbers_plain : (numbers : List ℕ) → TextIsPlain (numbers_text numbers)
numbers_plain [] = refl
numbers_plain (n ∷ numbers) = appended_plain_texts_are_plain (codes " " ++ decimal n) (numbers_text numbers) (number_plain n) (numbers_plain numbers)

-- an entry that is given out has bytes
abbrev pub OutcomeEntryIsBytes : Outcome → Type 0
OutcomeEntryIsBytes (said.Took number entry) = EntryBodyIsBytes entry
OutcomeEntryIsBytes _ = Unit {0}

parts_plain : (rules : Rules) (outcome : Outcome) → OutcomeEntryIsBytes outcome → TextIsPlain (outcome_parts rules outcome)
unfolding outcome_parts
parts_plain rules (said.Took number entry) bytes =
    appended_plain_texts_are_plain (decimal number) (codes " " ++ entry_text rules entry) (number_plain number) (entry_text_is_plain rules entry bytes)
parts_plain rules (said.NoBody from req) bytes = appended_plain_texts_are_plain (name_text from) (codes " " ++ decimal req) (name_plain from) (number_plain req)
parts_plain rules (said.Newer promise) bytes = stamp_plain promise
parts_plain rules (said.Waiting names) bytes = set_plain names
parts_plain rules (said.Fetching from want) bytes = appended_plain_texts_are_plain (name_text from) (codes " " ++ decimal want) (name_plain from) (number_plain want)
parts_plain rules (said.Overtaken by) bytes = stamp_plain by
parts_plain rules (said.NotIn best) bytes = stamp_plain best
parts_plain rules (said.Decided number members) bytes =
    appended_plain_texts_are_plain (decimal number) (codes " " ++ names_text members) (number_plain number) (set_plain members)
parts_plain rules (said.Occupied name) bytes = name_plain name
parts_plain rules outcome bytes = numbers_plain (outcome_numbers outcome)

pub outcome_text_is_plain : (rules : Rules) (outcome : Outcome) → OutcomeEntryIsBytes outcome → TextIsPlain (outcome_text rules outcome)
unfolding outcome_text
outcome_text_is_plain rules outcome bytes =
    appended_plain_texts_are_plain (outcome_word outcome) (outcome_parts rules outcome) (word_is_plain_text (outcome_word outcome) (outcome_is_word outcome)) (parts_plain rules outcome bytes)

-- ---- events

pub act_is_word : (act : Act) → TextIsWord (act_word act)
unfolding act_word
act_is_word acts.Take = refl
act_is_word _ = refl

act_plain : (rules : Rules) (act : Act) → IsOfBytes act → TextIsPlain (act_parts rules act)
unfolding act_parts
act_plain rules (acts.Send body) bytes = word_is_plain_text (body_text body) (body_text_is_word body bytes)
act_plain rules (acts.Done req) bytes = number_plain req
act_plain rules (acts.Reset least resilience) bytes =
    appended_plain_texts_are_plain (decimal least) (resilience_text rules resilience) (number_plain least) (resilience_plain rules resilience)
act_plain rules (acts.Ask round) bytes = number_plain round
act_plain rules (acts.GiveUp name) bytes = name_plain name
act_plain rules (acts.Hear packet) bytes = number_plain packet
act_plain rules (acts.Cut packet keep) bytes = appended_plain_texts_are_plain (decimal packet) (codes " " ++ decimal keep) (number_plain packet) (number_plain keep)
act_plain rules _ bytes = refl

pub event_text_is_plain : (rules : Rules) (event : Event) → IsOfBytes event.act → TextIsPlain (event_text rules event)
unfolding event_text
event_text_is_plain rules event bytes =
    appended_plain_texts_are_plain (act_word event.act) (codes " " ++ (decimal (place_of_name event.node) ++ act_parts rules event.act))
    (word_is_plain_text (act_word event.act) (act_is_word event.act))
    (appended_plain_texts_are_plain (decimal (place_of_name event.node)) (act_parts rules event.act) (number_plain (place_of_name event.node)) (act_plain rules event.act bytes))

-- ---- lines

no_newline : (c : ℕ) → byte_is_plain c ≡ true → not (c == 10) ≡ true
no_newline c is = (and_true_gives_both (not (c == 10)) (not (c == 58) && not (c == 124)) is).0

pub plain_text_is_line : (text : List ℕ) → TextIsPlain text → HasNoNewline text
plain_text_is_line text is = list_all_of_weaker_test byte_is_plain (λ c. not (c == 10)) text no_newline is

pub appended_lines_are_line : (xs ys : List ℕ) → HasNoNewline xs → HasNoNewline ys → HasNoNewline (xs ++ ys)
appended_lines_are_line xs ys h k = list_all_of_append (λ c. not (c == 10)) xs ys h k

kind_line : (packet : Packet) → HasNoNewline (kind_word packet)
unfolding kind_word
kind_line (packets.JoinAsk sender stamp) = refl
kind_line _ = refl

to_by : (b : Bool) (to : List ℕ) → HasNoNewline (cond b (codes "all") (names_text to))
to_by true to = refl
to_by false to = plain_text_is_line (names_text to) (set_plain to)

to_line : (place : ℕ) (letter : Letter) → HasNoNewline (addressees_text place letter)
unfolding addressees_text
to_line place letter = to_by (letter.any || is_everybody_else place letter.to) letter.to

letter_line : (place number : ℕ) (letter : Letter) → HasNoNewline (letter_text place number letter)
unfolding letter_text
letter_line place number letter =
    appended_lines_are_line (decimal number) (codes " " ++ (kind_word letter.packet ++ (codes " to " ++ addressees_text place letter))) (plain_text_is_line (decimal number)
    (number_plain number))
    (appended_lines_are_line (kind_word letter.packet) (codes " to " ++ addressees_text place letter) (kind_line letter.packet) (to_line place letter))

pub letters_text_is_line : (place number : ℕ) (letters : List Letter) → HasNoNewline (letters_text place number letters)
letters_text_is_line place number [] = refl
letters_text_is_line place number (letter ∷ letters) =
    appended_lines_are_line (letter_text place number letter) (letters_text place (number + 1) letters) (letter_line place number letter) (letters_text_is_line place
    (number + 1) letters)

-- letters are none, or begin with a bar
abbrev pub BeginsWithBarIfAny : List ℕ → Type 0
BeginsWithBarIfAny [] = Unit {0}
BeginsWithBarIfAny (c ∷ cs) = (rest : List ℕ) × (c ∷ cs ≡ 32 ∷ 124 ∷ 32 ∷ rest)

pub letters_text_begins_with_bar : (place number : ℕ) (letters : List Letter) → BeginsWithBarIfAny (letters_text place number letters)
unfolding letter_text
letters_text_begins_with_bar place number [] = tt
letters_text_begins_with_bar place number (letter ∷ letters) = (_, refl)

-- ---- marks

and_false : (b : Bool) → (b && false) ≡ false
and_false true = refl
and_false false = refl

-- no mark begins where another byte comes next
not_begun : (mark x y : ℕ) (more : List ℕ) → (y == mark) ≡ false → begins_mark mark (x ∷ y ∷ more) ≡ false
not_begun mark x y more other =
    ap (λ b. (x == 32) && (b && (slice_index more 0 == 32))) other ∙ and_false (x == 32)

abbrev Lacks : ℕ → List ℕ → Type 0
Lacks mark text = list_all (λ c. not (c == mark)) text ≡ true

go_on : (mark x : ℕ) (more : List ℕ) (cut : List ℕ × Option (List ℕ)) → begins_mark mark (x ∷ more) ≡ false → mark_cut mark more ≡ cut
    → mark_cut mark (x ∷ more) ≡ onto_cut x cut
go_on mark x more cut is rest =
    ap (λ c. cond c ([], Some (drop 2 more)) (onto_cut x (mark_cut mark more))) is ∙ ap (onto_cut x) rest

begun : (mark : ℕ) (rest : List ℕ) → (mark == mark) ≡ true → mark_cut mark (32 ∷ mark ∷ 32 ∷ rest) ≡ ([], Some rest)
begun mark rest is = ap (λ b. cond (b && true) ([], Some rest) (onto_cut 32 (mark_cut mark (mark ∷ 32 ∷ rest)))) is

-- a text without the mark ends at the first
mark_ends : (mark : ℕ) (text rest : List ℕ) → (mark == mark) ≡ true → (32 == mark) ≡ false → Lacks mark text
    → mark_cut mark (text ++ 32 ∷ mark ∷ 32 ∷ rest) ≡ (text, Some rest)
mark_ends mark [] rest is other none = begun mark rest is
mark_ends mark (x ∷ []) rest is other none =
    go_on mark x (32 ∷ mark ∷ 32 ∷ rest) ([], Some rest) (not_begun mark x 32 (mark ∷ 32 ∷ rest) other) (begun mark rest is)
mark_ends mark (x ∷ y ∷ ys) rest is other none =
    let first = and_true_gives_both (not (x == mark)) (list_all (λ c. not (c == mark)) (y ∷ ys)) none in
    let second = and_true_gives_both (not (y == mark)) (list_all (λ c. not (c == mark)) ys) first.1 in
    go_on mark x (y ∷ ys ++ 32 ∷ mark ∷ 32 ∷ rest) (y ∷ ys, Some rest)
    (not_begun mark x y (ys ++ 32 ∷ mark ∷ 32 ∷ rest) (not-true (y == mark) second.0))
    (mark_ends mark (y ∷ ys) rest is other first.1)

-- or is the whole
mark_none : (mark : ℕ) (text : List ℕ) → (0 == mark) ≡ false → Lacks mark text → mark_cut mark text ≡ (text, None)
mark_none mark [] nought none = refl
mark_none mark (x ∷ []) nought none =
    go_on mark x [] ([], None) (ap (λ b. (x == 32) && (b && false)) nought ∙ and_false (x == 32)) refl
mark_none mark (x ∷ y ∷ ys) nought none =
    let first = and_true_gives_both (not (x == mark)) (list_all (λ c. not (c == mark)) (y ∷ ys)) none in
    let second = and_true_gives_both (not (y == mark)) (list_all (λ c. not (c == mark)) ys) first.1 in
    go_on mark x (y ∷ ys) (y ∷ ys, None) (not_begun mark x y ys (not-true (y == mark) second.0)) (mark_none mark (y ∷ ys) nought first.1)

lacks_colon : (c : ℕ) → byte_is_plain c ≡ true → not (c == 58) ≡ true
lacks_colon c is = (and_true_gives_both (not (c == 58)) (not (c == 124)) ((and_true_gives_both (not (c == 10)) (not (c == 58) && not (c == 124)) is).1)).0

lacks_bar : (c : ℕ) → byte_is_plain c ≡ true → not (c == 124) ≡ true
lacks_bar c is = (and_true_gives_both (not (c == 58)) (not (c == 124)) ((and_true_gives_both (not (c == 10)) (not (c == 58) && not (c == 124)) is).1)).1

-- an event's text ends at the first colon
pub mark_cut_at_first_colon : (text rest : List ℕ) → TextIsPlain text → mark_cut 58 (text ++ 32 ∷ 58 ∷ 32 ∷ rest) ≡ (text, Some rest)
mark_cut_at_first_colon text rest is = mark_ends 58 text rest refl refl (list_all_of_weaker_test byte_is_plain (λ c. not (c == 58)) text lacks_colon is)

bar_by : (text behind : List ℕ) → TextIsPlain text → BeginsWithBarIfAny behind → (mark_cut 124 (text ++ behind)).0 ≡ text
bar_by text [] is letters =
    ap (λ t. (mark_cut 124 t).0) (append-nil text)
    ∙ ap (λ c. c.0) (mark_none 124 text refl (list_all_of_weaker_test byte_is_plain (λ c. not (c == 124)) text lacks_bar is))
bar_by text (c ∷ cs) is letters =
    ap (λ t. (mark_cut 124 (text ++ t)).0) letters.1
    ∙ ap (λ (c : List ℕ × Option (List ℕ)). c.0) (mark_ends 124 text letters.0 refl refl (list_all_of_weaker_test byte_is_plain (λ c. not (c == 124)) text lacks_bar is))

-- and an outcome's at the first bar
pub mark_cut_at_first_bar : (text behind : List ℕ) → TextIsPlain text → BeginsWithBarIfAny behind → (mark_cut 124 (text ++ behind)).0 ≡ text
mark_cut_at_first_bar text behind is letters = bar_by text behind is letters
