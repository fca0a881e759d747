use Rattle.std.proofs.Common.{◌≡◌, ℕ, ◌<◌, [], ◌∷◌, List, length, take, subst, arith}
use Rattle.std.specs.Io.KnownBytes.{Appends}
use Rattle.std.proofs.lemmas.Bool.Decides.{nat_tests}
use Rattle.am_node_lines.specs.Speakers.{speaking}
use Rattle.am_node_lines.proofs.Talks.{empty_line_keeps_talk, talk_goes_on_by_answer, talk_of_part_of_answer, talk_lacking_later_answers}
use Rattle.am_node_lines.proofs.speaking.Talk.end_line.Goals as goal

pub returns-then-is_empty-clause-talks : goal.returns-then-is_empty-clause-talks
returns-then-is_empty-clause-talks g c =
    let e = c.is_empty.ensures in
    let f = c.if-is_empty.true in
    let ok = c.args.self.now.line.ok in
    let none : length c.args.self.now.line.items ≡ 0 = grind (arith, nat_tests) in
    λ rules first start given t. empty_line_keeps_talk rules first start _ given _ _ none t

pub returns-in-Err-clause-talks : goal.returns-in-Err-clause-talks
returns-in-Err-clause-talks g c = λ rules first start given t. talk_lacking_later_answers rules first start _ given (10 ∷ []) _ _ t

pub returns-in-Ok-write_all-clause-talks : goal.returns-in-Ok-write_all-clause-talks
returns-in-Ok-write_all-clause-talks g c =
    let some : 0 < length c.args.self.now.line.items = grind (arith, nat_tests, c.is_empty.ensures, c.if-is_empty.false, c.args.self.now.line.ok) in
    λ rules first start given t.
    talk_goes_on_by_answer rules first start _ _ given _ (speaking c.say.new.self.speaker) _ _ _ some c.in-Ok.ensures.says c.say.ensures.same c.in-Ok.ensures.ready c.in-Ok.ensures.next
    (subst (λ (bs : List ℕ). Appends (g.K.Sink.contents c.args.sink.now) (g.K.Sink.contents c.write_all.new.sink) bs) c.as_bytes.ensures.value c.in-Ok-write_all.ensures.ok) t

pub returns-in-Err-write_all-clause-talks : goal.returns-in-Err-write_all-clause-talks
returns-in-Err-write_all-clause-talks g c =
    let some : 0 < length c.args.self.now.line.items = grind (arith, nat_tests, c.is_empty.ensures, c.if-is_empty.false, c.args.self.now.line.ok) in
    λ rules first start given t.
    talk_of_part_of_answer rules first start _ _ given _ (speaking c.say.new.self.speaker) _ _ c.in-Err-write_all.field-0.written some c.in-Ok.ensures.says
    (subst (λ (bs : List ℕ). Appends (g.K.Sink.contents c.args.sink.now) (g.K.Sink.contents c.write_all.new.sink) (take c.in-Err-write_all.field-0.written bs))
    c.as_bytes.ensures.value c.in-Err-write_all.ensures.part) t
