-- Scripts and their texts. Written by tools/rows.py from cases/stop_table.
use Rattle.std.specs.Prelude.{◌≡◌, [], ◌∷◌, codes}
use Rattle.am_group.specs.declared.event.Act.TheVariants as act
use Rattle.am_group_defs.specs.Play.{play_text_of}
use Rattle.am_computed_cases.specs.Scripts.{rules_with, on, lines}

abbrev pub StopsAfterTheAcknowledgment : Type 0
StopsAfterTheAcknowledgment = play_text_of (rules_with (0 ∷ 1 ∷ 2 ∷ []) 1 64 256) (
    on 0 (act.Send (97 ∷ [])) ∷ on 0 act.Take ∷ on 0 act.Take ∷ on 1 (act.Hear 1) ∷ on 0 (act.Hear 2) ∷ on 0 act.Stop ∷ on 1 (act.Reset 1 1) ∷
    on 2 (act.Hear 4) ∷ on 1 (act.Hear 5) ∷ on 1 (act.GiveUp 0) ∷
    []) ≡ lines (
    codes "1 send 0 61 : queued 1 | 1 Bcast to 1,2" ∷
    codes "2 take 0 : took 1 view 1.0 0,1,2" ∷
    codes "3 take 0 : empty" ∷
    codes "4 hear 1 1 : stored 2 | 2 Ack to 0" ∷
    codes "5 hear 0 2 : accepted 2 | 3 Accept to 1,2" ∷
    codes "6 stop 0 : stopped" ∷
    codes "7 reset 1 1 : waiting 0,2 | 4 Invite to 0,2" ∷
    codes "8 hear 2 4 : voted | 5 Vote to 1" ∷
    codes "9 hear 1 5 : waiting 0" ∷
    codes "10 giveup 1 0 : decided 3 1,2 | 6 Result to 2" ∷
    codes "group 1 view 1.0 0,1,2" ∷
    codes "group 2 data 0 1 61" ∷
    codes "log 0 1 view 1.0 0,1,2" ∷
    codes "log 1 empty" ∷
    codes "log 2 empty" ∷
    codes "lawful" ∷
    [])

abbrev pub StopsAfterTheEmptyTake : Type 0
StopsAfterTheEmptyTake = play_text_of (rules_with (0 ∷ 1 ∷ 2 ∷ []) 1 64 256) (
    on 0 (act.Send (97 ∷ [])) ∷ on 0 act.Take ∷ on 0 act.Take ∷ on 0 act.Stop ∷ on 1 (act.Reset 1 1) ∷ on 2 (act.Hear 2) ∷ on 1 (act.Hear 3) ∷
    on 1 (act.GiveUp 0) ∷
    []) ≡ lines (
    codes "1 send 0 61 : queued 1 | 1 Bcast to 1,2" ∷
    codes "2 take 0 : took 1 view 1.0 0,1,2" ∷
    codes "3 take 0 : empty" ∷
    codes "4 stop 0 : stopped" ∷
    codes "5 reset 1 1 : waiting 0,2 | 2 Invite to 0,2" ∷
    codes "6 hear 2 2 : voted | 3 Vote to 1" ∷
    codes "7 hear 1 3 : waiting 0" ∷
    codes "8 giveup 1 0 : decided 2 1,2 | 4 Result to 2" ∷
    codes "group 1 view 1.0 0,1,2" ∷
    codes "log 0 1 view 1.0 0,1,2" ∷
    codes "log 1 empty" ∷
    codes "log 2 empty" ∷
    codes "lawful" ∷
    [])

abbrev pub StopsAfterTheFirstTake : Type 0
StopsAfterTheFirstTake = play_text_of (rules_with (0 ∷ 1 ∷ 2 ∷ []) 1 64 256) (
    on 0 (act.Send (97 ∷ [])) ∷ on 0 act.Take ∷ on 0 act.Stop ∷ on 1 (act.Reset 1 1) ∷ on 2 (act.Hear 2) ∷ on 1 (act.Hear 3) ∷ on 1 (act.GiveUp 0) ∷
    []) ≡ lines (
    codes "1 send 0 61 : queued 1 | 1 Bcast to 1,2" ∷
    codes "2 take 0 : took 1 view 1.0 0,1,2" ∷
    codes "3 stop 0 : stopped" ∷
    codes "4 reset 1 1 : waiting 0,2 | 2 Invite to 0,2" ∷
    codes "5 hear 2 2 : voted | 3 Vote to 1" ∷
    codes "6 hear 1 3 : waiting 0" ∷
    codes "7 giveup 1 0 : decided 2 1,2 | 4 Result to 2" ∷
    codes "group 1 view 1.0 0,1,2" ∷
    codes "log 0 1 view 1.0 0,1,2" ∷
    codes "log 1 empty" ∷
    codes "log 2 empty" ∷
    codes "lawful" ∷
    [])

abbrev pub StopsAfterTheSecondTake : Type 0
StopsAfterTheSecondTake = play_text_of (rules_with (0 ∷ 1 ∷ 2 ∷ []) 1 64 256) (
    on 0 (act.Send (97 ∷ [])) ∷ on 0 act.Take ∷ on 0 act.Take ∷ on 1 (act.Hear 1) ∷ on 0 (act.Hear 2) ∷ on 0 act.Take ∷ on 0 act.Stop ∷
    on 1 (act.Reset 1 1) ∷ on 2 (act.Hear 4) ∷ on 1 (act.Hear 5) ∷ on 1 (act.GiveUp 0) ∷
    []) ≡ lines (
    codes "1 send 0 61 : queued 1 | 1 Bcast to 1,2" ∷
    codes "2 take 0 : took 1 view 1.0 0,1,2" ∷
    codes "3 take 0 : empty" ∷
    codes "4 hear 1 1 : stored 2 | 2 Ack to 0" ∷
    codes "5 hear 0 2 : accepted 2 | 3 Accept to 1,2" ∷
    codes "6 take 0 : took 2 data 0 1 61" ∷
    codes "7 stop 0 : stopped" ∷
    codes "8 reset 1 1 : waiting 0,2 | 4 Invite to 0,2" ∷
    codes "9 hear 2 4 : voted | 5 Vote to 1" ∷
    codes "10 hear 1 5 : waiting 0" ∷
    codes "11 giveup 1 0 : decided 3 1,2 | 6 Result to 2" ∷
    codes "group 1 view 1.0 0,1,2" ∷
    codes "group 2 data 0 1 61" ∷
    codes "log 0 1 view 1.0 0,1,2" ∷
    codes "log 0 2 data 0 1 61" ∷
    codes "log 1 empty" ∷
    codes "log 2 empty" ∷
    codes "lawful" ∷
    [])

abbrev pub StopsAfterTheSend : Type 0
StopsAfterTheSend = play_text_of (rules_with (0 ∷ 1 ∷ 2 ∷ []) 1 64 256) (
    on 0 (act.Send (97 ∷ [])) ∷ on 0 act.Stop ∷ on 1 (act.Reset 1 1) ∷ on 2 (act.Hear 2) ∷ on 1 (act.Hear 3) ∷ on 1 (act.GiveUp 0) ∷
    []) ≡ lines (
    codes "1 send 0 61 : queued 1 | 1 Bcast to 1,2" ∷
    codes "2 stop 0 : stopped" ∷
    codes "3 reset 1 1 : waiting 0,2 | 2 Invite to 0,2" ∷
    codes "4 hear 2 2 : voted | 3 Vote to 1" ∷
    codes "5 hear 1 3 : waiting 0" ∷
    codes "6 giveup 1 0 : decided 2 1,2 | 4 Result to 2" ∷
    codes "group 1 view 1.0 0,1,2" ∷
    codes "log 0 empty" ∷
    codes "log 1 empty" ∷
    codes "log 2 empty" ∷
    codes "lawful" ∷
    [])

abbrev pub StopsAfterTheStoring : Type 0
StopsAfterTheStoring = play_text_of (rules_with (0 ∷ 1 ∷ 2 ∷ []) 1 64 256) (
    on 0 (act.Send (97 ∷ [])) ∷ on 0 act.Take ∷ on 0 act.Take ∷ on 1 (act.Hear 1) ∷ on 0 act.Stop ∷ on 1 (act.Reset 1 1) ∷ on 2 (act.Hear 3) ∷
    on 1 (act.Hear 4) ∷ on 1 (act.GiveUp 0) ∷
    []) ≡ lines (
    codes "1 send 0 61 : queued 1 | 1 Bcast to 1,2" ∷
    codes "2 take 0 : took 1 view 1.0 0,1,2" ∷
    codes "3 take 0 : empty" ∷
    codes "4 hear 1 1 : stored 2 | 2 Ack to 0" ∷
    codes "5 stop 0 : stopped" ∷
    codes "6 reset 1 1 : waiting 0,2 | 3 Invite to 0,2" ∷
    codes "7 hear 2 3 : voted | 4 Vote to 1" ∷
    codes "8 hear 1 4 : waiting 0" ∷
    codes "9 giveup 1 0 : decided 3 1,2 | 5 Result to 2" ∷
    codes "group 1 view 1.0 0,1,2" ∷
    codes "log 0 1 view 1.0 0,1,2" ∷
    codes "log 1 empty" ∷
    codes "log 2 empty" ∷
    codes "lawful" ∷
    [])

abbrev pub StopsBeforeAnything : Type 0
StopsBeforeAnything = play_text_of (rules_with (0 ∷ 1 ∷ 2 ∷ []) 1 64 256) (
    on 0 act.Stop ∷ on 1 (act.Reset 1 1) ∷ on 2 (act.Hear 1) ∷ on 1 (act.Hear 2) ∷ on 1 (act.GiveUp 0) ∷
    []) ≡ lines (
    codes "1 stop 0 : stopped" ∷
    codes "2 reset 1 1 : waiting 0,2 | 1 Invite to 0,2" ∷
    codes "3 hear 2 1 : voted | 2 Vote to 1" ∷
    codes "4 hear 1 2 : waiting 0" ∷
    codes "5 giveup 1 0 : decided 2 1,2 | 3 Result to 2" ∷
    codes "group 1 view 1.0 0,1,2" ∷
    codes "log 0 empty" ∷
    codes "log 1 empty" ∷
    codes "log 2 empty" ∷
    codes "lawful" ∷
    [])
