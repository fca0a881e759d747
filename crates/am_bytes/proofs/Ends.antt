-- A node answers as every node does of which it is the end.
use Rattle.std.proofs.Common.{◌≡◌, ℕ, List, ◌++◌, Result, Ok, Err, OnOk, ap, ◌∙◌, subst, append_assoc, ◌==◌, not}
use Rattle.std.specs.Prelude.{nat_lt}
use Rattle.am_base.specs.declared.image.Image.{Image}
use Rattle.am_model.specs.Node.{Node, image_of_node, node_unsettled_count}
use Rattle.am_model.specs.Ends.{IsEndOf}
use Rattle.am_model.specs.Info.{info_of_node, names_waited_for}
use Rattle.am_model.specs.declared.info.Info.{Info}
use Rattle.am_node_parts.proofs.Ends.{image_of_node_end}
use Rattle.am_node.proofs.Told.{info_of_end_is_info}
use Rattle.am_node_lines.specs.declared.line.Line.{Line}
use Rattle.am_node_lines.specs.declared.reply.LineReply.{LineReply}
use Rattle.am_node_lines.specs.Answers.{reply_to}
use Rattle.am_node_lines.specs.Speakers.{RepliesBy, AnswersBy}
use Rattle.am_bytes.specs.declared.standing.NodeStanding.{NodeStanding}
use Rattle.am_bytes.specs.Events.{event_of}
use Rattle.am_bytes.specs.Answers.{node_standing, standing_bytes, reply_bytes, answer_bytes, in_bytes, event_answer}

abbrev standing_with : Info → Image → Node → NodeStanding
standing_with i image m = record {
  role = i.role;
  has_next = not (i.taken == i.accepted);
  is_sending = nat_lt 0 (node_unsettled_count m);
  is_leaving = m.leaving;
  view = i.view;
  view_number = image.view_number;
  members = i.members;
  resilience = image.resilience;
  base = i.base;
  taken = i.taken;
  accepted = i.accepted;
  top = i.top;
  waits_for = names_waited_for m.ballot;
}

standing_end : (all m : Node) → IsEndOf all m → node_standing m ≡ node_standing all
standing_end all m end =
    ap (λ (i : Info). standing_with i (image_of_node m) m) (info_of_end_is_info all m end)
    ∙ ap (λ (image : Image). standing_with (info_of_node all) image m) (image_of_node_end all m end)
    ∙ ap (λ (n : Node). standing_with (info_of_node all) (image_of_node all) n) end.same

pub told_event_answers_bytes : {E : Type 0} (done : Result (Unit {0}) E) (m kept new : Node) (bytes : List ℕ) (event : Line) (told : LineReply) (stand : NodeStanding)
    (before standing after : List ℕ) → event ≡ event_of bytes → RepliesBy (λ n. reply_to n event) m told new → stand ≡ node_standing kept → kept ≡ new
    → standing ≡ before ++ standing_bytes stand → OnOk done (after ≡ standing ++ reply_bytes told)
    → OnOk done (AnswersBy (λ n. event_answer n bytes) m before new after)
unfolding event_answer answer_bytes
told_event_answers_bytes (Ok done) m kept new bytes event told stand before standing after is h of same stands says = λ all end.
    let r = h all end in
    let stood : stand ≡ node_standing new = of ∙ ap node_standing same in
    let text : after ≡ before ++ (in_bytes (reply_to all event)).text =
    says ∙ ap (λ (t : List ℕ). t ++ reply_bytes told) stands ∙ append_assoc before (standing_bytes stand) (reply_bytes told)
    ∙ ap (λ (s : NodeStanding). before ++ (standing_bytes s ++ reply_bytes told)) (stood ∙ standing_end (reply_to all event).node new r.1)
    ∙ ap (λ (t : LineReply). before ++ (standing_bytes (node_standing (reply_to all event).node) ++ reply_bytes t)) r.0 in
    subst (λ (l : Line). (after ≡ before ++ (in_bytes (reply_to all l)).text) × IsEndOf (reply_to all l).node new) is (text, r.1)
told_event_answers_bytes (Err lack) m kept new bytes event told stand before standing after is h of same stands says = tt
