use Rattle.std.proofs.Common.{◌≡◌, ◌++◌, string_bytes}
use Rattle.std.specs.List.{flat_map}
use Rattle.am_group_defs.specs.Text.{newline, body_text}
use Rattle.am_services.proofs.Parts.{parts_of_message_left}
use Rattle.am_services.proofs.messages.parts_text.Given as goal

abbrev pub invariant-loop-index : goal.invariant-loop-index
invariant-loop-index l = string_bytes l.out ++ flat_map (λ part. body_text part ++ newline) (parts_of_message_left l.message l.index)
    ≡ flat_map (λ part. body_text part ++ newline) (parts_of_message_left l.message 0)
