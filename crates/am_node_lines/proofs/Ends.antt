-- A node answers as every node does of which it is the end.
use Rattle.std.proofs.Common.{◌≡◌, ℕ, ◌+◌, ◌++◌, List, Bool, true, false, IsTrue, ◌↔◌, ◌&&◌, nat_lt, Result, Ok, Err, IfOk, refl, sym, ap, ap₂, ◌∙◌, subst, arith}
use Rattle.std.specs.Prelude.{codes, decimal}
use Rattle.std.proofs.lemmas.Bool.Decides.{nat_tests}
use Rattle.am_base.specs.Most.{greatest_number}
use Rattle.am_base.specs.Founding.{Rules}
use Rattle.am_base.specs.declared.event.NodeEvent.{NodeEvent}
use Rattle.am_base.specs.declared.name.Stamp.{Stamp}
use Rattle.am_base.specs.declared.image.Image.{Image}
use Rattle.am_base.specs.declared.outcome.Outcome.{Outcome}
use Rattle.am_node_defs.specs.Cores.{CoreFrontsAreInOrder}
use Rattle.am_packet.specs.Boxes.{Letter}
use Rattle.am_node_defs.specs.Sends.{Sends}
use Rattle.am_model.specs.Node.{Node, top, image_of_node}
use Rattle.am_model.specs.Step.{row, step}
use Rattle.am_model.specs.Ends.{IsEndOf, DoesRow}
use Rattle.am_model.proofs.Hearing.{ends_step_alike}
use Rattle.am_node_parts.proofs.Ends.{top_of_node_end, image_of_node_end}
use Rattle.am_model.specs.Info.{info_of_node, names_waited_for}
use Rattle.am_model.specs.Nodes.{HasNumbersLeft}
use Rattle.am_model.specs.declared.info.Info.{Info}
use Rattle.am_node.proofs.Told.{info_of_end_is_info}
use Rattle.am_group_defs.specs.Text.{stamp_text, names_text}
use Rattle.am_node_lines.specs.declared.line.Line.{Line}
use Rattle.am_node_lines.specs.declared.reply.LineReply.{LineReply}
use Rattle.am_node_lines.specs.declared.reply.LineReply.TheVariants as replies
use Rattle.am_node_lines.specs.Lines.{node_line_of}
use Rattle.am_node_lines.specs.Answers.{role_word, list_numbers_text, info_text, has_numbers_left, LineReplied, stepped, unchanged, is_info, reply_by, reply_to, reply_text, answer_to, line_answer}
use Rattle.am_node_lines.specs.Speakers.{RepliesBy, AnswersBy}

-- ---- info

numbers_with : Info → ℕ → List ℕ
numbers_with i resilience =
    codes " " ++ (decimal resilience
    ++ (codes " " ++ (decimal i.base
    ++ (codes " " ++ (decimal i.taken
    ++ (codes " " ++ (decimal i.accepted
    ++ (codes " " ++ (decimal i.top ++ codes " ")))))))))

info_with : Info → Image → List ℕ → List ℕ
info_with i image waits =
    role_word i.role
    ++ (codes " " ++ (stamp_text i.view
    ++ (codes " " ++ (decimal image.view_number
    ++ (codes " " ++ (names_text i.members
    ++ (numbers_with i image.resilience ++ names_text waits)))))))

info_by : (m : Node) → info_text m ≡ info_with (info_of_node m) (image_of_node m) (names_waited_for m.ballot)
unfolding info_text list_numbers_text info_with numbers_with
info_by m = refl

info_end : (all m : Node) → IsEndOf all m → info_text m ≡ info_text all
info_end all m end =
    info_by m
    ∙ ap (λ i. info_with i (image_of_node m) (names_waited_for m.ballot)) (info_of_end_is_info all m end)
    ∙ ap (λ image. info_with (info_of_node all) image (names_waited_for m.ballot)) (image_of_node_end all m end)
    ∙ ap (λ n. info_with (info_of_node all) (image_of_node all) (names_waited_for n.ballot)) end.same
    ∙ sym (info_by all)

-- ---- numbers

abbrev numbers_by : ℕ → Stamp → Sends → Bool
numbers_by high promise sends = nat_lt (high + 1) greatest_number && (nat_lt promise.round greatest_number && nat_lt sends.last greatest_number)

numbers_end : (all m : Node) → IsEndOf all m → has_numbers_left m ≡ has_numbers_left all
numbers_end all m end =
    ap (λ (high : ℕ). numbers_by high m.core.promise m.sends) (top_of_node_end all m end)
    ∙ ap (λ n. numbers_by (top all) n.core.promise n.sends) end.same

numbers_told : (m : Node) → HasNumbersLeft m → has_numbers_left m ≡ true
numbers_told m left =
    let entries = left.entries in
    let rounds = left.rounds in
    let requests = left.requests in
    grind (arith, nat_tests)

numbers_found : (m : Node) → has_numbers_left m ≡ true → HasNumbersLeft m
numbers_found m is = record {
  entries = grind (arith, nat_tests);
  rounds = grind (arith, nat_tests);
  requests = grind (arith, nat_tests);
}

tested : (b c : Bool) → (b ≡ true → c ≡ true) → (c ≡ true → b ≡ true) → b ≡ c
tested true c to from = sym (to refl)
tested false true to from = from refl
tested false false to from = refl

pub numbers_left_of_node : (b : Bool) (m : Node) → (IsTrue b ↔ HasNumbersLeft m) → b ≡ has_numbers_left m
numbers_left_of_node b m says = tested b (has_numbers_left m) (λ is. numbers_told m (says.0 is)) (λ is. says.1 (numbers_found m is))

-- ---- steps

step_replies : (m new : Node) (event : NodeEvent) (outcome : Outcome) (letters shown : List Letter) → CoreFrontsAreInOrder m.core
    → DoesRow (λ n. row n event) m outcome letters new → shown ≡ letters → RepliesBy (λ n. stepped (step n event)) m (replies.Did outcome shown) new
unfolding step
step_replies m new event outcome letters shown order does are = λ all end.
    let alike = ends_step_alike all m event end order in (
      ap₂ (λ (o : Outcome) (ls : List Letter). replies.Did o ls) (does.answer ∙ sym alike.answer) (are ∙ does.sent ∙ sym alike.sent),
      alike.node new does.node,
    )

-- the same of the node that stands apart, behind a box
pub kept_end_step_replies_did : (m kept new : Node) (event : NodeEvent) (outcome : Outcome) (letters shown : List Letter) → kept ≡ m → CoreFrontsAreInOrder kept.core
    → DoesRow (λ n. row n event) kept outcome letters new → shown ≡ letters → RepliesBy (λ n. stepped (step n event)) m (replies.Did outcome shown) new
kept_end_step_replies_did m kept new event outcome letters shown same order does are =
    subst (λ (n : Node). RepliesBy (λ a. stepped (step a event)) n (replies.Did outcome shown) new) same
    (step_replies kept new event outcome letters shown order does are)

-- ---- lines

spent_reply : (n : Node) (asked : Line) → is_info asked ≡ false → has_numbers_left n ≡ false → unchanged n replies.Spent ≡ reply_to n asked
spent_reply n asked other spent = rw (other, spent) refl

done_reply : (n : Node) (asked : Line) → is_info asked ≡ false → has_numbers_left n ≡ true → reply_by n asked ≡ reply_to n asked
done_reply n asked other left = rw (other, left) refl

info_reply : (n : Node) (asked : Line) → is_info asked ≡ true → unchanged n replies.Info ≡ reply_to n asked
info_reply n asked is = rw is refl

-- where something else comes, and it is the same at each node of which this is the end
other_replies : (replied other : Node → LineReplied) (m : Node) (told : LineReply) (new : Node) → ((all : Node) → IsEndOf all m → replied all ≡ other all)
    → RepliesBy replied m told new → RepliesBy other m told new
other_replies replied other m told new same h = λ all end. (
  (h all end).0 ∙ ap (λ (r : LineReplied). r.reply) (same all end),
  subst (λ (r : LineReplied). IsEndOf r.node new) (same all end) (h all end).1,
)

pub info_line_replies_info : (m : Node) (asked : Line) → is_info asked ≡ true → RepliesBy (λ n. reply_to n asked) m replies.Info m
info_line_replies_info m asked is =
    other_replies (λ n. unchanged n replies.Info) (λ n. reply_to n asked) m replies.Info m (λ all end. info_reply all asked is) (λ all end. (refl, end))

pub line_without_numbers_replies_spent : (m : Node) (asked : Line) → is_info asked ≡ false → has_numbers_left m ≡ false → RepliesBy (λ n. reply_to n asked) m replies.Spent m
line_without_numbers_replies_spent m asked other spent =
    other_replies (λ n. unchanged n replies.Spent) (λ n. reply_to n asked) m replies.Spent m
    (λ all end. spent_reply all asked other (sym (numbers_end all m end) ∙ spent)) (λ all end. (refl, end))

pub done_line_replies_told : {E : Type 0} (m new : Node) (asked : Line) (done : Result LineReply E) → is_info asked ≡ false → has_numbers_left m ≡ true
    → IfOk done (λ told. RepliesBy (λ n. reply_by n asked) m told new) → IfOk done (λ told. RepliesBy (λ n. reply_to n asked) m told new)
done_line_replies_told m new asked (Ok told) other left h =
    other_replies (λ n. reply_by n asked) (λ n. reply_to n asked) m told new (λ all end. done_reply all asked other (sym (numbers_end all m end) ∙ left)) h
done_line_replies_told m new asked (Err lack) other left h = tt

-- ---- answers

reply_text_end : (rules : Rules) (all m : Node) (told : LineReply) → IsEndOf all m → reply_text rules m told ≡ reply_text rules all told
reply_text_end rules all m (replies.Did outcome letters) end = refl
reply_text_end rules all m replies.Info end = info_end all m end
reply_text_end rules all m (replies.Bad cause) end = refl
reply_text_end rules all m replies.Spent end = refl

pub told_reply_answers_line : (rules kept : Rules) (m apart new : Node) (text : List ℕ) (asked : Line) (told : LineReply) (before after : List ℕ) → kept ≡ rules
    → apart ≡ new → asked ≡ node_line_of rules text → RepliesBy (λ n. reply_to n asked) m told new → after ≡ before ++ reply_text kept apart told
    → AnswersBy (λ n. line_answer rules n text) m before new after
unfolding line_answer
told_reply_answers_line rules kept m apart new text asked told before after same at is h says = λ all end.
    let r = h all end in
    subst (λ (l : Line). (after ≡ before ++ (answer_to rules all l).text) × IsEndOf (answer_to rules all l).node new) is (
      says ∙ ap (λ (u : Rules). before ++ reply_text u apart told) same ∙ ap (λ (n : Node). before ++ reply_text rules n told) at
          ∙ ap (λ (t : List ℕ). before ++ t)
          (reply_text_end rules (reply_to all asked).node new told r.1 ∙ ap (reply_text rules (reply_to all asked).node) r.0),
      r.1,
    )
