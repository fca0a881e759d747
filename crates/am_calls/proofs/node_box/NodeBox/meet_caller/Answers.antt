use Rattle.am_race_laws.proofs.Looking.{hand_stays_at_meeting, box_meets_the_hand, meeting_adds_no_record, refused_meeting_was_refused}
use Rattle.am_calls.proofs.node_box.NodeBox.meet_caller.Goals as goal

pub returns-clause-hand : goal.returns-clause-hand
returns-clause-hand g c = hand_stays_at_meeting _ _ _ _ _ _ c.requires.hand c.meet.ensures.share

pub returns-clause-ok : goal.returns-clause-ok
returns-clause-ok g c = box_meets_the_hand _ _ _ _ _ _ c.meet.result (hand_stays_at_meeting _ _ _ _ _ _ c.requires.hand c.meet.ensures.share) c.meet.ensures.few c.meet.ensures.both
    c.meet.ensures.open_ c.meet.ensures.runs

pub returns-clause-goes : goal.returns-clause-goes
returns-clause-goes g c = meeting_adds_no_record _ _ _ _ _ _ c.requires.hand c.meet.ensures.share

pub returns-clause-err : goal.returns-clause-err
returns-clause-err g c =
    refused_meeting_was_refused _ _ _ _ _ _ c.meet.result (meeting_adds_no_record _ _ _ _ _ _ c.requires.hand c.meet.ensures.share) c.meet.ensures.both c.meet.ensures.looks.name
    c.meet.ensures.err
