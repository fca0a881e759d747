-- A node that speaks, byte by byte.
use Rattle.std.proofs.Common.{◌≡◌, ℕ, ◌+◌, ◌<◌, ◌≤◌, List, [], ◌∷◌, ◌++◌, length, take, drop, get_or, Bool, true, false, ◌==◌, Option, Some, None, refl, sym, ap, ◌∙◌}
use Rattle.std.proofs.Common.{append_assoc, append-nil, arith, take_all, subst, length-append}
use Rattle.std.proofs.lemmas.List.{take-append-le, take-append-drop, take_more, length-take}
use Rattle.std.specs.Io.KnownBytes.{Appends, Consumes}
use Rattle.am_io.proofs.Bytes.{sink_appended_both_parts}
use Rattle.am_io.specs.Outside.{ReadToEnd}
use Rattle.am_base.specs.Founding.{Rules}
use Rattle.am_base.specs.Names.{has}
use Rattle.am_node_parts.proofs.Ends.{untrimmed_node_ends_itself}
use Rattle.am_model.specs.Node.{Node}
use Rattle.am_model.specs.Ends.{IsEndOf}
use Rattle.am_group_defs.specs.World.{first_node}
use Rattle.am_group_defs.specs.Text.{newline}
use Rattle.am_node_lines.specs.Answers.{line_answer}
use Rattle.am_node_lines.specs.Speakers.{SpeakerState}
use Rattle.am_node_lines.specs.declared.ending.TalkFault.{TalkFault}
use Rattle.am_node_lines.specs.declared.ending.TalkFault.TheVariants as faults
use Rattle.am_node_lines.specs.declared.ending.SpokenEnd.TheVariants.{Done, NoMemory}
use Rattle.am_node_lines.specs.Speaking.{end_by, with_spoken_line, spoken_lines, whole_lines, whole_from, rest_from, answers_of, node_after, WrotePart, IsTalking, LineIsAnswered, Spoke}
use Rattle.am_node_lines.proofs.Lines.{whole_from_of_appended_bytes, lines_from_by_whole_lines, whole_lines_after_newline, rest_after_newline_is_empty, whole_lines_after_other_byte, rest_after_other_byte, answers_of_appended_lines, node_after_appended_lines, answer_of_cut_line, whole_text_wrote_its_part, wrote_part_of_longer_text, wrote_part_after_first_text}

-- ---- the beginning

first_end : (rules : Rules) (name : ℕ) → (b : Bool) → has rules.founders name ≡ b → (first_node rules name).core.base ≡ (first_node rules name).core.log.start
first_end rules name true is = rw is refl
first_end rules name false is = rw is refl

appends_none : (start : Option (List ℕ)) → Appends start start []
appends_none None = tt
appends_none (Some xs) = sym (append-nil xs)

pub talk_begins_with_first_node : (rules : Rules) (name : ℕ) (start : Option (List ℕ)) (s : SpeakerState) (line : List ℕ) → s.rules ≡ rules → s.failed ≡ false
    → s.node ≡ first_node rules name → line ≡ [] → IsTalking rules (first_node rules name) start [] s line start
unfolding whole_from rest_from answers_of node_after
talk_begins_with_first_node rules name start s line same ready node none = record {
  same = same;
  ready = ready;
  node = subst (λ (n : Node). IsEndOf (first_node rules name) n) (sym node) (untrimmed_node_ends_itself (first_node rules name) (first_end rules name (has rules.founders name) refl));
  begun = none;
  written = appends_none start;
}

-- ---- a byte within a line

pub talk_goes_on_with_byte : (rules : Rules) (first : Node) (start held : Option (List ℕ)) (given : List ℕ) (s : SpeakerState) (line next : List ℕ) (byte : ℕ) → (byte == 10) ≡ false
    → length line ≤ 4096 → next ≡ line ++ byte ∷ [] → IsTalking rules first start given s line held → IsTalking rules first start (given ++ byte ∷ []) s next held
talk_goes_on_with_byte rules first start held given s line next byte other short is t =
    let rest = rest_from [] given in
    let few : length rest ≤ 4096 = omega (arith, ap length t.begun, length-take 4097 rest) in
    let whole : line ≡ rest = t.begun ∙ take_all 4097 rest (omega arith) in
    record {
      same = t.same;
      ready = t.ready;
      node = subst (λ (ls : List (List ℕ)). IsEndOf (node_after rules first ls) s.node) (sym (whole_lines_after_other_byte given byte other)) t.node;
      begun = is ∙ ap (λ (xs : List ℕ). xs ++ byte ∷ []) whole ∙ sym (take_all 4097 (rest ++ byte ∷ []) (omega (arith, few, length-append rest (byte ∷ []))))
          ∙ ap (take 4097) (sym (rest_after_other_byte given byte other));
      written = subst (λ (ls : List (List ℕ)). Appends start held (answers_of rules first ls)) (sym (whole_lines_after_other_byte given byte other)) t.written;
    }

pub talk_goes_on_past_limit : (rules : Rules) (first : Node) (start held : Option (List ℕ)) (given : List ℕ) (s : SpeakerState) (line : List ℕ) (byte : ℕ) → (byte == 10) ≡ false
    → 4096 < length line → IsTalking rules first start given s line held → IsTalking rules first start (given ++ byte ∷ []) s line held
talk_goes_on_past_limit rules first start held given s line byte other long t =
    let rest = rest_from [] given in
    let many : 4097 ≤ length rest = omega (arith, ap length t.begun, length-take 4097 rest) in
    record {
      same = t.same;
      ready = t.ready;
      node = subst (λ (ls : List (List ℕ)). IsEndOf (node_after rules first ls) s.node) (sym (whole_lines_after_other_byte given byte other)) t.node;
      begun = t.begun ∙ sym (take-append-le 4097 rest (byte ∷ []) many) ∙ ap (take 4097) (sym (rest_after_other_byte given byte other));
      written = subst (λ (ls : List (List ℕ)). Appends start held (answers_of rules first ls)) (sym (whole_lines_after_other_byte given byte other)) t.written;
    }

-- ---- a newline

none_of : (xs : List ℕ) → length xs ≡ 0 → xs ≡ []
none_of [] h = refl
none_of (x ∷ xs) h = absurd (omega arith)

one_line : (xs : List ℕ) → 0 < length xs → with_spoken_line xs [] ≡ xs ∷ []
one_line [] some = absurd (omega arith)
one_line (x ∷ xs) some = refl

pub empty_line_keeps_talk : (rules : Rules) (first : Node) (start held : Option (List ℕ)) (given : List ℕ) (s : SpeakerState) (line : List ℕ) → length line ≡ 0
    → IsTalking rules first start given s line held → IsTalking rules first start (given ++ 10 ∷ []) s line held
empty_line_keeps_talk rules first start held given s line none t =
    let rest : rest_from [] given ≡ [] = none_of (rest_from [] given) (omega (arith, none, ap length t.begun, length-take 4097 (rest_from [] given))) in
    let same : whole_lines given ≡ whole_lines (given ++ 10 ∷ []) =
    sym (append-nil (whole_lines given)) ∙ ap (λ (l : List ℕ). whole_lines given ++ with_spoken_line l []) (sym rest) ∙ sym (whole_lines_after_newline given) in
    record {
      same = t.same;
      ready = t.ready;
      node = subst (λ (ls : List (List ℕ)). IsEndOf (node_after rules first ls) s.node) same t.node;
      begun = none_of line none ∙ ap (take 4097) (sym (rest_after_newline_is_empty given));
      written = subst (λ (ls : List (List ℕ)). Appends start held (answers_of rules first ls)) same t.written;
    }

-- the whole lines are one more
lines_one : (given line : List ℕ) → 0 < length line → line ≡ take 4097 (rest_from [] given) → whole_lines (given ++ 10 ∷ []) ≡ whole_lines given ++ rest_from [] given ∷ []
lines_one given line some begun =
    whole_lines_after_newline given ∙ ap (λ (ls : List (List ℕ)). whole_lines given ++ ls)
    (one_line (rest_from [] given) (omega (arith, some, ap length begun, length-take 4097 (rest_from [] given))))

-- so their answers are those so far, and the one to the line
answers_one : (rules : Rules) (first : Node) (given line text : List ℕ) → 0 < length line → line ≡ take 4097 (rest_from [] given)
    → text ≡ (line_answer rules (node_after rules first (whole_lines given)) line).text ++ newline
    → answers_of rules first (whole_lines (given ++ 10 ∷ [])) ≡ answers_of rules first (whole_lines given) ++ text
unfolding answers_of
answers_one rules first given line text some begun is =
    let all = node_after rules first (whole_lines given) in
    let said : text ≡ (line_answer rules all (rest_from [] given)).text ++ newline =
    is ∙ ap (λ (l : List ℕ). (line_answer rules all l).text ++ newline) begun ∙ ap (λ a. a.text ++ newline) (answer_of_cut_line rules all (rest_from [] given)) in
    ap (answers_of rules first) (lines_one given line some begun)
    ∙ answers_of_appended_lines rules first (whole_lines given) (rest_from [] given ∷ [])
    ∙ ap (λ (t : List ℕ). answers_of rules first (whole_lines given) ++ t) (append-nil ((line_answer rules all (rest_from [] given)).text ++ newline) ∙ sym said)

node_one : (rules : Rules) (first : Node) (given line : List ℕ) → 0 < length line → line ≡ take 4097 (rest_from [] given)
    → (line_answer rules (node_after rules first (whole_lines given)) line).node ≡ node_after rules first (whole_lines (given ++ 10 ∷ []))
unfolding node_after
node_one rules first given line some begun =
    let all = node_after rules first (whole_lines given) in
    ap (λ (l : List ℕ). (line_answer rules all l).node) begun ∙ ap (λ a. a.node) (answer_of_cut_line rules all (rest_from [] given))
    ∙ sym (node_after_appended_lines rules first (whole_lines given) (rest_from [] given ∷ []))
    ∙ ap (node_after rules first) (sym (lines_one given line some begun))

pub talk_goes_on_by_answer : (rules : Rules) (first : Node) (start held after : Option (List ℕ)) (given : List ℕ) (s n : SpeakerState) (line next text : List ℕ) → 0 < length line
    → LineIsAnswered s line n text → n.rules ≡ s.rules → n.failed ≡ false → next ≡ [] → Appends held after text
    → IsTalking rules first start given s line held → IsTalking rules first start (given ++ 10 ∷ []) n next after
talk_goes_on_by_answer rules first start held after given s n line next text some says same ready none appended t =
    let all = node_after rules first (whole_lines given) in
    let said = says all t.node in
    let its : text ≡ (line_answer rules all line).text ++ newline = said.0 ∙ ap (λ r. (line_answer r all line).text ++ newline) t.same in
    record {
      same = same ∙ t.same;
      ready = ready;
      node = subst (λ (m : Node). IsEndOf m n.node) (ap (λ r. (line_answer r all line).node) t.same ∙ node_one rules first given line some t.begun) said.1;
      begun = none ∙ ap (take 4097) (sym (rest_after_newline_is_empty given));
      written = subst (λ (a : List ℕ). Appends start after a) (sym (answers_one rules first given line text some t.begun its))
          (sink_appended_both_parts start held after (answers_of rules first (whole_lines given)) text t.written appended);
    }

pub talk_of_part_of_answer : (rules : Rules) (first : Node) (start held after : Option (List ℕ)) (given : List ℕ) (s n : SpeakerState) (line text : List ℕ) (count : ℕ) → 0 < length line
    → LineIsAnswered s line n text → Appends held after (take count text) → IsTalking rules first start given s line held
    → WrotePart start after (answers_of rules first (whole_lines (given ++ 10 ∷ [])))
talk_of_part_of_answer rules first start held after given s n line text count some says appended t =
    let all = node_after rules first (whole_lines given) in
    let its : text ≡ (line_answer rules all line).text ++ newline = (says all t.node).0 ∙ ap (λ r. (line_answer r all line).text ++ newline) t.same in
    subst (λ (a : List ℕ). WrotePart start after a) (sym (answers_one rules first given line text some t.begun its))
    (wrote_part_after_first_text start held after (answers_of rules first (whole_lines given)) text count t.written appended)

-- what goes on from given bytes
part_on : (rules : Rules) (first : Node) (start held : Option (List ℕ)) (given more : List ℕ) → WrotePart start held (answers_of rules first (whole_lines given))
    → WrotePart start held (answers_of rules first (whole_lines (given ++ more)))
part_on rules first start held given more part =
    subst (λ (a : List ℕ). WrotePart start held a)
    (sym (ap (answers_of rules first) (whole_from_of_appended_bytes [] given more) ∙ answers_of_appended_lines rules first (whole_lines given) (whole_from (rest_from [] given) more)))
    (wrote_part_of_longer_text start held (answers_of rules first (whole_lines given)) _ part)

pub talk_lacking_later_answers : (rules : Rules) (first : Node) (start held : Option (List ℕ)) (given more : List ℕ) (s : SpeakerState) (line : List ℕ)
    → IsTalking rules first start given s line held → WrotePart start held (answers_of rules first (whole_lines (given ++ more)))
talk_lacking_later_answers rules first start held given more s line t = part_on rules first start held given more (whole_text_wrote_its_part start held (answers_of rules first (whole_lines given)) t.written)

-- ---- ends

-- bytes that weren't all taken
pub talk_broke_on_in_bytes : (rules : Rules) (first : Node) (start held : Option (List ℕ)) (given bytes : List ℕ) (i : ℕ) → i ≤ length bytes
    → WrotePart start held (answers_of rules first (whole_lines (given ++ take i bytes))) → WrotePart start held (answers_of rules first (whole_lines (given ++ bytes)))
talk_broke_on_in_bytes rules first start held given bytes i within part =
    let all : (given ++ take i bytes) ++ drop i bytes ≡ given ++ bytes = append_assoc given (take i bytes) (drop i bytes) ∙ ap (λ (xs : List ℕ). given ++ xs) (take-append-drop i bytes) in
    subst (λ (xs : List ℕ). WrotePart start held (answers_of rules first (whole_lines xs))) all (part_on rules first start held (given ++ take i bytes) (drop i bytes) part)

-- a newline after the end makes the rest a line
ended_is : (given : List ℕ) → whole_lines (given ++ 10 ∷ []) ≡ spoken_lines given
ended_is given = whole_lines_after_newline given ∙ sym (lines_from_by_whole_lines [] given)

to_end : (bytes : List ℕ) (a b c : Option (List ℕ)) → Consumes a b bytes → ReadToEnd b c [] → ReadToEnd a c bytes
to_end bytes None b c h k = tt
to_end bytes (Some xs) None c h k = absurd h
to_end bytes (Some xs) (Some ys) c h k = (h ∙ ap (λ (zs : List ℕ). bytes ++ zs) k.0 ∙ append-nil bytes, k.1)

-- the part of what whole lines were answered is one of all lines'
part_all : (rules : Rules) (first : Node) (start held : Option (List ℕ)) (given : List ℕ) → WrotePart start held (answers_of rules first (whole_lines given))
    → WrotePart start held (answers_of rules first (spoken_lines given))
part_all rules first start held given part =
    subst (λ (a : List ℕ). WrotePart start held a)
    (sym (ap (answers_of rules first) (lines_from_by_whole_lines [] given) ∙ answers_of_appended_lines rules first (whole_lines given) (with_spoken_line (rest_from [] given) [])))
    (wrote_part_of_longer_text start held (answers_of rules first (whole_lines given)) _ part)

pub given_bytes_with_next_byte : (given bytes : List ℕ) (i : ℕ) → i < length bytes → (given ++ take i bytes) ++ get_or bytes i 0 ∷ [] ≡ given ++ take (i + 1) bytes
given_bytes_with_next_byte given bytes i within = append_assoc given (take i bytes) (get_or bytes i 0 ∷ []) ∙ ap (λ (xs : List ℕ). given ++ xs) (sym (take_more bytes i 0 within))

-- ---- the whole loop

-- at the end of the input
pub spoke_all_answers : (rules : Rules) (name : ℕ) (a b c start held : Option (List ℕ)) (given : List ℕ) (s : SpeakerState) (line : List ℕ) → Consumes a b given → ReadToEnd b c []
    → IsTalking rules (first_node rules name) start (given ++ 10 ∷ []) s line held → Spoke rules name Done a c start held
spoke_all_answers rules name a b c start held given s line taken end t =
    (given, to_end given a b c taken end, subst (λ (ls : List (List ℕ)). Appends start held (answers_of rules (first_node rules name) ls)) (ended_is given) t.written)

-- where the last line's answer wasn't written
pub spoke_up_to_last_line : (rules : Rules) (name : ℕ) (fault : TalkFault) (a b c start held : Option (List ℕ)) (given : List ℕ) → Consumes a c given
    → WrotePart start held (answers_of rules (first_node rules name) (whole_lines (given ++ 10 ∷ []))) → Spoke rules name (end_by fault) a c start held
spoke_up_to_last_line rules name faults.Write a b c start held given taken part =
    (given, taken, subst (λ (ls : List (List ℕ)). WrotePart start held (answers_of rules (first_node rules name) ls)) (ended_is given) part)
spoke_up_to_last_line rules name faults.NoMemory a b c start held given taken part =
    (given, taken, subst (λ (ls : List (List ℕ)). WrotePart start held (answers_of rules (first_node rules name) ls)) (ended_is given) part)

-- where another's wasn't
pub spoke_part_of_answers : (rules : Rules) (name : ℕ) (fault : TalkFault) (a c start held : Option (List ℕ)) (given : List ℕ) → Consumes a c given
    → WrotePart start held (answers_of rules (first_node rules name) (whole_lines given)) → Spoke rules name (end_by fault) a c start held
spoke_part_of_answers rules name faults.Write a c start held given taken part = (given, taken, part_all rules (first_node rules name) start held given part)
spoke_part_of_answers rules name faults.NoMemory a c start held given taken part = (given, taken, part_all rules (first_node rules name) start held given part)

pub source_consumed_nothing : (a : Option (List ℕ)) → Consumes a a []
source_consumed_nothing None = tt
source_consumed_nothing (Some xs) = refl

pub spoke_nothing_without_memory : (rules : Rules) (name : ℕ) (a start : Option (List ℕ)) → Spoke rules name NoMemory a a start start
spoke_nothing_without_memory rules name a start = ([], source_consumed_nothing a, (0, appends_none start))

some_same : (x y : List ℕ) → Some x ≡ Some y → x ≡ y
some_same x y is = cc

-- what was taken where the end was found
pub source_consumed_up_to_end : (bytes : List ℕ) (a b c : Option (List ℕ)) → Consumes a b bytes → ReadToEnd b c [] → Consumes a c bytes
source_consumed_up_to_end bytes None b c h k = tt
source_consumed_up_to_end bytes (Some xs) None c h k = absurd h
source_consumed_up_to_end bytes (Some xs) (Some ys) None h k = let e = k.1 in cc
source_consumed_up_to_end bytes (Some xs) (Some ys) (Some zs) h k = h ∙ ap (λ (l : List ℕ). bytes ++ l) (k.0 ∙ sym (some_same zs [] k.1))
