use Rattle.am_journal.proofs.Search.{search_begins_after_number}
use Rattle.am_generator.specs.Courses.{letters_sent}
use Rattle.am_generator.proofs.course.Course.next_for.Goals as goal

pub loop-index-init : goal.loop-index-init
loop-index-init c = search_begins_after_number (letters_sent c.args.self.now) c.args.node c.args.after
