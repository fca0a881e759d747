-- Scripts and their texts. Written by tools/rows.py from cases/locks.
use Rattle.std.specs.Prelude.{◌≡◌, [], ◌∷◌, codes}
use Rattle.am_group.specs.declared.event.Act.TheVariants as act
use Rattle.am_group_defs.specs.Play.{play_text_of}
use Rattle.am_computed_cases.specs.Scripts.{rules_with, on, lines}

abbrev pub JoinerGivenUp : Type 0
JoinerGivenUp = play_text_of (rules_with (0 ∷ 1 ∷ []) 1 64 256) (
    on 1 act.Stop ∷ on 2 act.Join ∷ on 0 (act.Hear 1) ∷ on 0 (act.Reset 1 1) ∷ on 2 (act.Hear 3) ∷ on 0 (act.Hear 4) ∷ on 0 (act.GiveUp 1) ∷
    on 2 act.Tick ∷ on 0 (act.Hear 6) ∷ on 0 act.Take ∷ on 0 act.Take ∷ on 2 act.Stop ∷ on 0 (act.Reset 1 1) ∷ on 0 (act.GiveUp 2) ∷ on 0 act.Take ∷
    on 0 act.Take ∷ on 0 act.Take ∷ on 0 act.Take ∷ on 2 act.Return ∷ on 2 act.Join ∷ on 0 (act.Hear 8) ∷ on 2 (act.Hear 9) ∷ on 2 (act.Hear 10) ∷
    on 0 (act.Hear 10) ∷ on 0 act.Tick ∷ on 2 (act.Hear 11) ∷ on 2 act.Take ∷
    []) ≡ lines (
    codes "1 stop 1 : stopped" ∷
    codes "2 join 2 : asked | 1 JoinAsk to all" ∷
    codes "3 hear 0 1 : numbered 2 | 2 Bcast to 1" ∷
    codes "4 reset 0 1 : waiting 1,2 | 3 Invite to 1,2" ∷
    codes "5 hear 2 3 : voted | 4 Vote to 0" ∷
    codes "6 hear 0 4 : waiting 1" ∷
    codes "7 giveup 0 1 : decided 3 0,2 | 5 Result to 2" ∷
    codes "8 tick 2 : ticked | 6 JoinAsk to all" ∷
    codes "9 hear 0 6 : again" ∷
    codes "10 take 0 : took 1 view 1.0 0,1" ∷
    codes "11 take 0 : empty" ∷
    codes "12 stop 2 : stopped" ∷
    codes "13 reset 0 1 : waiting 2 | 7 Invite to 2" ∷
    codes "14 giveup 0 2 : decided 4 0" ∷
    codes "15 take 0 : took 2 join 2" ∷
    codes "16 take 0 : took 3 view 2.0 0,2" ∷
    codes "17 take 0 : took 4 view 3.0 0" ∷
    codes "18 take 0 : empty" ∷
    codes "19 return 2 : returned 2" ∷
    codes "20 join 2 : asked | 8 JoinAsk to all" ∷
    codes "21 hear 0 8 : numbered 5 | 9 Welcome to 2/2" ∷
    codes "22 hear 2 9 : welcomed 5 | 10 Nack to 0" ∷
    codes "23 hear 2 10 : not-addressed" ∷
    codes "24 hear 0 10 : served 1 | 11 Bcast to 2/2" ∷
    codes "25 tick 0 : ticked | 12 Accept to 2/2" ∷
    codes "26 hear 2 11 : stored 5 | 13 Ack to 0" ∷
    codes "27 take 2 : took 5 join 2/2" ∷
    codes "group 1 view 1.0 0,1" ∷
    codes "group 2 join 2" ∷
    codes "group 3 view 2.0 0,2" ∷
    codes "group 4 view 3.0 0" ∷
    codes "group 5 join 2/2" ∷
    codes "log 0 1 view 1.0 0,1" ∷
    codes "log 0 2 join 2" ∷
    codes "log 0 3 view 2.0 0,2" ∷
    codes "log 0 4 view 3.0 0" ∷
    codes "log 1 empty" ∷
    codes "log 2/2 5 join 2/2" ∷
    codes "lawful" ∷
    [])

abbrev pub JoinerNotWelcomed : Type 0
JoinerNotWelcomed = play_text_of (rules_with (0 ∷ 1 ∷ []) 1 64 256) (
    on 1 act.Stop ∷ on 2 act.Join ∷ on 0 (act.Hear 1) ∷ on 0 (act.Reset 1 1) ∷ on 2 (act.Hear 3) ∷ on 0 (act.Hear 4) ∷ on 0 (act.GiveUp 1) ∷
    on 2 (act.Hear 5) ∷ on 0 act.Tick ∷ on 2 (act.Hear 6) ∷ on 2 (act.Hear 7) ∷ on 2 act.Tick ∷ on 0 (act.Hear 8) ∷ on 0 act.Take ∷ on 0 act.Take ∷
    on 2 act.State ∷
    []) ≡ lines (
    codes "1 stop 1 : stopped" ∷
    codes "2 join 2 : asked | 1 JoinAsk to all" ∷
    codes "3 hear 0 1 : numbered 2 | 2 Bcast to 1" ∷
    codes "4 reset 0 1 : waiting 1,2 | 3 Invite to 1,2" ∷
    codes "5 hear 2 3 : voted | 4 Vote to 0" ∷
    codes "6 hear 0 4 : waiting 1" ∷
    codes "7 giveup 0 1 : decided 3 0,2 | 5 Result to 2" ∷
    codes "8 hear 2 5 : elsewhere" ∷
    codes "9 tick 0 : ticked | 6 Accept to 2 | 7 Result to 2" ∷
    codes "10 hear 2 6 : elsewhere" ∷
    codes "11 hear 2 7 : elsewhere" ∷
    codes "12 tick 2 : ticked | 8 JoinAsk to all" ∷
    codes "13 hear 0 8 : again" ∷
    codes "14 take 0 : took 1 view 1.0 0,1" ∷
    codes "15 take 0 : empty" ∷
    codes "16 state 2 : asked" ∷
    codes "group 1 view 1.0 0,1" ∷
    codes "log 0 1 view 1.0 0,1" ∷
    codes "log 1 empty" ∷
    codes "lawful" ∷
    [])

abbrev pub LastTwoLeaveAtOnce : Type 0
LastTwoLeaveAtOnce = play_text_of (rules_with (0 ∷ 1 ∷ []) 1 64 256) (
    on 0 act.Leave ∷ on 1 act.Leave ∷ on 1 (act.Hear 1) ∷ on 0 (act.Hear 2) ∷ on 1 (act.Hear 3) ∷ on 0 act.Tick ∷ on 1 act.Tick ∷ on 0 (act.Hear 4) ∷
    on 1 act.Take ∷ on 1 act.Take ∷ on 1 act.State ∷ on 1 (act.Reset 1 1) ∷
    []) ≡ lines (
    codes "1 leave 0 : asked | 1 HandOver to 1" ∷
    codes "2 leave 1 : asked | 2 LeaveAsk to 0" ∷
    codes "3 hear 1 1 : leaving" ∷
    codes "4 hear 0 2 : numbered 2 | 3 Bcast to 1" ∷
    codes "5 hear 1 3 : stored 2" ∷
    codes "6 tick 0 : departed" ∷
    codes "7 tick 1 : ticked | 4 LeaveAsk to 0" ∷
    codes "8 hear 0 4 : elsewhere" ∷
    codes "9 take 1 : took 1 view 1.0 0,1" ∷
    codes "10 take 1 : empty" ∷
    codes "11 state 1 : leaving" ∷
    codes "12 reset 1 1 : not-member" ∷
    codes "group 1 view 1.0 0,1" ∷
    codes "log 0 empty" ∷
    codes "log 1 1 view 1.0 0,1" ∷
    codes "lawful" ∷
    [])

abbrev pub LeaveLost : Type 0
LeaveLost = play_text_of (rules_with (0 ∷ 1 ∷ []) 1 64 256) (
    on 1 act.Leave ∷ on 0 (act.Hear 1) ∷ on 0 (act.Send (97 ∷ [])) ∷ on 1 act.Tick ∷ on 0 (act.Hear 3) ∷ on 0 act.Tick ∷ on 1 act.Tick ∷
    on 0 (act.Hear 4) ∷ on 0 act.Take ∷ on 0 act.Take ∷ on 0 (act.Reset 1 1) ∷ on 0 act.Take ∷ on 0 act.Take ∷ on 0 act.Take ∷ on 0 (act.Done 1) ∷
    on 1 act.Tick ∷ on 0 (act.Hear 5) ∷ on 1 (act.Hear 6) ∷
    []) ≡ lines (
    codes "1 leave 1 : asked | 1 LeaveAsk to 0" ∷
    codes "2 hear 0 1 : numbered 2 | 2 Bcast to 1" ∷
    codes "3 send 0 61 : queued 1" ∷
    codes "4 tick 1 : ticked | 3 LeaveAsk to 0" ∷
    codes "5 hear 0 3 : again" ∷
    codes "6 tick 0 : ticked" ∷
    codes "7 tick 1 : ticked | 4 LeaveAsk to 0" ∷
    codes "8 hear 0 4 : again" ∷
    codes "9 take 0 : took 1 view 1.0 0,1" ∷
    codes "10 take 0 : empty" ∷
    codes "11 reset 0 1 : decided 4 0" ∷
    codes "12 take 0 : took 2 leave 1" ∷
    codes "13 take 0 : took 3 data 0 1 61" ∷
    codes "14 take 0 : took 4 view 2.0 0" ∷
    codes "15 done 0 1 : sent 1 3" ∷
    codes "16 tick 1 : ticked | 5 LeaveAsk to 0" ∷
    codes "17 hear 0 5 : let-go 2 | 6 Gone to 1" ∷
    codes "18 hear 1 6 : departed" ∷
    codes "group 1 view 1.0 0,1" ∷
    codes "group 2 leave 1" ∷
    codes "group 3 data 0 1 61" ∷
    codes "group 4 view 2.0 0" ∷
    codes "log 0 1 view 1.0 0,1" ∷
    codes "log 0 2 leave 1" ∷
    codes "log 0 3 data 0 1 61" ∷
    codes "log 0 4 view 2.0 0" ∷
    codes "log 1 empty" ∷
    codes "lawful" ∷
    [])
