use Rattle.am_world.proofs.Words.{◌≡◌, ◌+◌, drop}
use Rattle.am_group.specs.Addressed.{first_for, next_for}
use Rattle.am_generator.specs.Courses.{letters_sent}
use Rattle.am_generator.proofs.course.Course.next_for.Given as goal

abbrev pub invariant-loop-index : goal.invariant-loop-index
invariant-loop-index l = first_for (drop l.index (letters_sent l.self)) (l.index + 1) l.node ≡ next_for (letters_sent l.self) l.node l.fn.after
