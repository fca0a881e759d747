use Rattle.am_generator.proofs.Courses.{course_stands_at_first, counts_at_first_are_zero}
use Rattle.am_generator.proofs.course.Course.new.Goals as goal

pub returns : goal.returns
returns c = record {
  stands = course_stands_at_first c.args.founding.now c.in_ok-places.places c.new-2.result c.in_ok-places.ensures.founded c.in_ok-places.ensures.begins c.new-2.ensures;
  counted = rw c.new-4.ensures (counts_at_first_are_zero c.args.founding.now);
}
