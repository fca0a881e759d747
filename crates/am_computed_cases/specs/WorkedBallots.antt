-- Scripts and their texts. Written by tools/rows.py from cases/worked_ballots.
use Rattle.std.specs.Prelude.{◌≡◌, [], ◌∷◌, codes}
use Rattle.am_group.specs.declared.event.Act.TheVariants as act
use Rattle.am_group_defs.specs.Play.{play_text_of}
use Rattle.am_computed_cases.specs.Scripts.{rules_with, on, lines}

abbrev pub CompleteBeforeAccepted : Type 0
CompleteBeforeAccepted = play_text_of (rules_with (0 ∷ 1 ∷ 2 ∷ []) 0 64 256) (
    on 1 (act.Reset 1 2) ∷ on 0 (act.Hear 1) ∷ on 2 (act.Hear 1) ∷ on 1 (act.Hear 2) ∷ on 1 (act.Hear 3) ∷ on 0 (act.Hear 4) ∷ on 2 (act.Hear 4) ∷
    on 0 act.Stop ∷
    []) ≡ lines (
    codes "1 reset 1 1 r2 : waiting 0,2 | 1 Invite to 0,2" ∷
    codes "2 hear 0 1 : voted | 2 Vote to 1" ∷
    codes "3 hear 2 1 : voted | 3 Vote to 1" ∷
    codes "4 hear 1 2 : waiting 2" ∷
    codes "5 hear 1 3 : decided 2 0,1,2 | 4 Result to 0,2" ∷
    codes "6 hear 0 4 : stored 2 | 5 Ack to 1" ∷
    codes "7 hear 2 4 : stored 2 | 6 Ack to 1" ∷
    codes "8 stop 0 : stopped" ∷
    codes "group 1 view 1.0 0,1,2" ∷
    codes "log 0 empty" ∷
    codes "log 1 empty" ∷
    codes "log 2 empty" ∷
    codes "lawful" ∷
    [])

abbrev pub CoordinatorStopSurvived : Type 0
CoordinatorStopSurvived = play_text_of (rules_with (0 ∷ 1 ∷ 2 ∷ []) 2 64 256) (
    on 0 act.Stop ∷ on 1 (act.Reset 1 2) ∷ on 1 (act.GiveUp 0) ∷ on 2 (act.Hear 1) ∷ on 1 (act.Hear 2) ∷ on 1 act.Stop ∷ on 2 (act.Reset 1 2) ∷
    on 2 (act.GiveUp 0) ∷ on 2 (act.GiveUp 1) ∷
    []) ≡ lines (
    codes "1 stop 0 : stopped" ∷
    codes "2 reset 1 1 : waiting 0,2 | 1 Invite to 0,2" ∷
    codes "3 giveup 1 0 : waiting 2" ∷
    codes "4 hear 2 1 : voted | 2 Vote to 1" ∷
    codes "5 hear 1 2 : decided 2 1,2 | 3 Result to 2" ∷
    codes "6 stop 1 : stopped" ∷
    codes "7 reset 2 1 : waiting 0,1 | 4 Invite to 0,1" ∷
    codes "8 giveup 2 0 : waiting 1" ∷
    codes "9 giveup 2 1 : decided 2 2" ∷
    codes "group 1 view 1.0 0,1,2" ∷
    codes "group 2 view 3.2 2" ∷
    codes "log 0 empty" ∷
    codes "log 1 empty" ∷
    codes "log 2 empty" ∷
    codes "lawful" ∷
    [])

abbrev pub CoordinatorStopsToo : Type 0
CoordinatorStopsToo = play_text_of (rules_with (0 ∷ 1 ∷ 2 ∷ []) 1 64 256) (
    on 0 act.Stop ∷ on 1 (act.Reset 1 1) ∷ on 1 (act.GiveUp 0) ∷ on 2 (act.Hear 1) ∷ on 1 (act.Hear 2) ∷ on 1 act.Stop ∷ on 2 (act.Reset 1 1) ∷
    on 2 (act.GiveUp 0) ∷ on 2 (act.GiveUp 1) ∷
    []) ≡ lines (
    codes "1 stop 0 : stopped" ∷
    codes "2 reset 1 1 : waiting 0,2 | 1 Invite to 0,2" ∷
    codes "3 giveup 1 0 : waiting 2" ∷
    codes "4 hear 2 1 : voted | 2 Vote to 1" ∷
    codes "5 hear 1 2 : decided 2 1,2 | 3 Result to 2" ∷
    codes "6 stop 1 : stopped" ∷
    codes "7 reset 2 1 : waiting 0,1 | 4 Invite to 0,1" ∷
    codes "8 giveup 2 0 : waiting 1" ∷
    codes "9 giveup 2 1 : decided 2 2" ∷
    codes "group 1 view 1.0 0,1,2" ∷
    codes "group 2 view 3.2 2" ∷
    codes "log 0 empty" ∷
    codes "log 1 empty" ∷
    codes "log 2 empty" ∷
    codes "void from 6" ∷
    [])

abbrev pub RaisedResilience : Type 0
RaisedResilience = play_text_of (rules_with (0 ∷ 1 ∷ 2 ∷ []) 0 64 256) (
    on 0 (act.Reset 1 1) ∷ on 1 (act.Hear 1) ∷ on 2 (act.Hear 1) ∷ on 0 (act.Hear 2) ∷ on 0 (act.Hear 3) ∷ on 0 act.Take ∷ on 0 act.Take ∷
    on 1 (act.Hear 4) ∷ on 0 (act.Hear 5) ∷ on 0 act.Take ∷
    []) ≡ lines (
    codes "1 reset 0 1 r1 : waiting 1,2 | 1 Invite to 1,2" ∷
    codes "2 hear 1 1 : voted | 2 Vote to 0" ∷
    codes "3 hear 2 1 : voted | 3 Vote to 0" ∷
    codes "4 hear 0 2 : waiting 2" ∷
    codes "5 hear 0 3 : decided 2 0,1,2 | 4 Result to 1,2" ∷
    codes "6 take 0 : took 1 view 1.0 0,1,2" ∷
    codes "7 take 0 : empty" ∷
    codes "8 hear 1 4 : stored 2 | 5 Ack to 0" ∷
    codes "9 hear 0 5 : accepted 2 | 6 Accept to 1,2" ∷
    codes "10 take 0 : took 2 view 2.0 0,1,2 r1" ∷
    codes "group 1 view 1.0 0,1,2" ∷
    codes "group 2 view 2.0 0,1,2 r1" ∷
    codes "log 0 1 view 1.0 0,1,2" ∷
    codes "log 0 2 view 2.0 0,1,2 r1" ∷
    codes "log 1 empty" ∷
    codes "log 2 empty" ∷
    codes "lawful" ∷
    [])

abbrev pub RaisedResilienceStays : Type 0
RaisedResilienceStays = play_text_of (rules_with (0 ∷ 1 ∷ 2 ∷ []) 0 64 256) (
    on 0 (act.Reset 1 1) ∷ on 1 (act.Hear 1) ∷ on 2 (act.Hear 1) ∷ on 0 (act.Hear 2) ∷ on 0 (act.Hear 3) ∷ on 0 act.Take ∷ on 0 act.Take ∷
    on 1 (act.Hear 4) ∷ on 0 (act.Hear 5) ∷ on 0 act.Take ∷ on 2 (act.Hear 4) ∷ on 0 (act.Reset 1 0) ∷ on 1 (act.Hear 8) ∷ on 2 (act.Hear 8) ∷
    on 0 (act.Hear 9) ∷ on 0 (act.Hear 10) ∷ on 1 (act.Hear 11) ∷ on 0 (act.Hear 12) ∷ on 0 act.Take ∷
    []) ≡ lines (
    codes "1 reset 0 1 r1 : waiting 1,2 | 1 Invite to 1,2" ∷
    codes "2 hear 1 1 : voted | 2 Vote to 0" ∷
    codes "3 hear 2 1 : voted | 3 Vote to 0" ∷
    codes "4 hear 0 2 : waiting 2" ∷
    codes "5 hear 0 3 : decided 2 0,1,2 | 4 Result to 1,2" ∷
    codes "6 take 0 : took 1 view 1.0 0,1,2" ∷
    codes "7 take 0 : empty" ∷
    codes "8 hear 1 4 : stored 2 | 5 Ack to 0" ∷
    codes "9 hear 0 5 : accepted 2 | 6 Accept to 1,2" ∷
    codes "10 take 0 : took 2 view 2.0 0,1,2 r1" ∷
    codes "11 hear 2 4 : stored 2 | 7 Ack to 0" ∷
    codes "12 reset 0 1 : waiting 1,2 | 8 Invite to 1,2" ∷
    codes "13 hear 1 8 : voted | 9 Vote to 0" ∷
    codes "14 hear 2 8 : voted | 10 Vote to 0" ∷
    codes "15 hear 0 9 : waiting 2" ∷
    codes "16 hear 0 10 : decided 3 0,1,2 | 11 Result to 1,2" ∷
    codes "17 hear 1 11 : stored 3 | 12 Ack to 0" ∷
    codes "18 hear 0 12 : accepted 3 | 13 Accept to 1,2" ∷
    codes "19 take 0 : took 3 view 3.0 0,1,2 r1" ∷
    codes "group 1 view 1.0 0,1,2" ∷
    codes "group 2 view 2.0 0,1,2 r1" ∷
    codes "group 3 view 3.0 0,1,2 r1" ∷
    codes "log 0 1 view 1.0 0,1,2" ∷
    codes "log 0 2 view 2.0 0,1,2 r1" ∷
    codes "log 0 3 view 3.0 0,1,2 r1" ∷
    codes "log 1 empty" ∷
    codes "log 2 empty" ∷
    codes "lawful" ∷
    [])

abbrev pub Tentative : Type 0
Tentative = play_text_of (rules_with (0 ∷ 1 ∷ 2 ∷ []) 1 64 256) (
    on 0 (act.Send (97 ∷ [])) ∷ on 0 act.Take ∷ on 0 act.Take ∷ on 1 (act.Hear 1) ∷ on 0 (act.Hear 2) ∷ on 0 act.Take ∷ on 1 (act.Hear 3) ∷
    []) ≡ lines (
    codes "1 send 0 61 : queued 1 | 1 Bcast to 1,2" ∷
    codes "2 take 0 : took 1 view 1.0 0,1,2" ∷
    codes "3 take 0 : empty" ∷
    codes "4 hear 1 1 : stored 2 | 2 Ack to 0" ∷
    codes "5 hear 0 2 : accepted 2 | 3 Accept to 1,2" ∷
    codes "6 take 0 : took 2 data 0 1 61" ∷
    codes "7 hear 1 3 : advanced 2" ∷
    codes "group 1 view 1.0 0,1,2" ∷
    codes "group 2 data 0 1 61" ∷
    codes "log 0 1 view 1.0 0,1,2" ∷
    codes "log 0 2 data 0 1 61" ∷
    codes "log 1 empty" ∷
    codes "log 2 empty" ∷
    codes "lawful" ∷
    [])

abbrev pub TooFew : Type 0
TooFew = play_text_of (rules_with (0 ∷ 1 ∷ 2 ∷ []) 0 64 256) (
    on 0 act.Stop ∷ on 1 (act.Reset 3 0) ∷ on 2 (act.Hear 1) ∷ on 1 (act.Hear 2) ∷ on 1 (act.GiveUp 0) ∷ on 1 (act.Reset 2 0) ∷
    []) ≡ lines (
    codes "1 stop 0 : stopped" ∷
    codes "2 reset 1 3 : waiting 0,2 | 1 Invite to 0,2" ∷
    codes "3 hear 2 1 : voted | 2 Vote to 1" ∷
    codes "4 hear 1 2 : waiting 0" ∷
    codes "5 giveup 1 0 : too-few 2 3" ∷
    codes "6 reset 1 2 : waiting 0,2 | 3 Invite to 0,2" ∷
    codes "group 1 view 1.0 0,1,2" ∷
    codes "log 0 empty" ∷
    codes "log 1 empty" ∷
    codes "log 2 empty" ∷
    codes "void from 1" ∷
    [])

abbrev pub TwoCoordinators : Type 0
TwoCoordinators = play_text_of (rules_with (0 ∷ 1 ∷ 2 ∷ []) 0 64 256) (
    on 1 (act.Reset 1 0) ∷ on 2 (act.Reset 1 0) ∷ on 1 (act.Hear 2) ∷ on 1 (act.Ask 2) ∷ on 2 (act.Hear 1) ∷ on 0 (act.Hear 2) ∷ on 2 (act.Hear 3) ∷
    on 2 (act.Hear 5) ∷
    []) ≡ lines (
    codes "1 reset 1 1 : waiting 0,2 | 1 Invite to 0,2" ∷
    codes "2 reset 2 1 : waiting 0,1 | 2 Invite to 0,1" ∷
    codes "3 hear 1 2 : voted | 3 Vote to 2" ∷
    codes "4 ask 1 2 : overtaken 2.2" ∷
    codes "5 hear 2 1 : newer 2.2 | 4 Vote to 1" ∷
    codes "6 hear 0 2 : voted | 5 Vote to 2" ∷
    codes "7 hear 2 3 : waiting 0" ∷
    codes "8 hear 2 5 : decided 2 0,1,2 | 6 Accept to 0,1 | 7 Result to 0,1" ∷
    codes "group 1 view 1.0 0,1,2" ∷
    codes "group 2 view 2.2 0,1,2" ∷
    codes "log 0 empty" ∷
    codes "log 1 empty" ∷
    codes "log 2 empty" ∷
    codes "lawful" ∷
    [])
