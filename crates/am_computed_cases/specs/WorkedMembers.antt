-- Scripts and their texts. Written by tools/rows.py from cases/worked_members.
use Rattle.std.specs.Prelude.{◌≡◌, [], ◌∷◌, codes}
use Rattle.am_group.specs.declared.event.Act.TheVariants as act
use Rattle.am_group_defs.specs.Play.{play_text_of}
use Rattle.am_computed_cases.specs.Scripts.{rules_with, on, lines}

abbrev pub EveryLife : Type 0
EveryLife = play_text_of (rules_with (0 ∷ []) 1 64 256) (
    on 0 act.Stop ∷ on 0 act.Return ∷ on 0 act.Stop ∷ on 0 act.Return ∷ on 0 act.Stop ∷ on 0 act.Return ∷ on 0 act.Stop ∷ on 0 act.Return ∷
    on 0 act.Stop ∷ on 0 act.Return ∷ on 0 act.Stop ∷ on 0 act.Return ∷ on 0 act.Stop ∷ on 0 act.Return ∷ on 0 act.Stop ∷ on 0 act.Return ∷
    on 0 act.Stop ∷ on 0 act.Return ∷ on 0 act.Stop ∷ on 0 act.Return ∷ on 0 act.Stop ∷ on 0 act.Return ∷ on 0 act.Stop ∷ on 0 act.Return ∷
    on 0 act.Stop ∷ on 0 act.Return ∷ on 0 act.Stop ∷ on 0 act.Return ∷ on 0 act.Stop ∷ on 0 act.Return ∷ on 0 act.Stop ∷ on 0 act.Return ∷
    []) ≡ lines (
    codes "1 stop 0 : stopped" ∷
    codes "2 return 0 : returned 2" ∷
    codes "3 stop 0 : stopped" ∷
    codes "4 return 0 : returned 3" ∷
    codes "5 stop 0 : stopped" ∷
    codes "6 return 0 : returned 4" ∷
    codes "7 stop 0 : stopped" ∷
    codes "8 return 0 : returned 5" ∷
    codes "9 stop 0 : stopped" ∷
    codes "10 return 0 : returned 6" ∷
    codes "11 stop 0 : stopped" ∷
    codes "12 return 0 : returned 7" ∷
    codes "13 stop 0 : stopped" ∷
    codes "14 return 0 : returned 8" ∷
    codes "15 stop 0 : stopped" ∷
    codes "16 return 0 : returned 9" ∷
    codes "17 stop 0 : stopped" ∷
    codes "18 return 0 : returned 10" ∷
    codes "19 stop 0 : stopped" ∷
    codes "20 return 0 : returned 11" ∷
    codes "21 stop 0 : stopped" ∷
    codes "22 return 0 : returned 12" ∷
    codes "23 stop 0 : stopped" ∷
    codes "24 return 0 : returned 13" ∷
    codes "25 stop 0 : stopped" ∷
    codes "26 return 0 : returned 14" ∷
    codes "27 stop 0 : stopped" ∷
    codes "28 return 0 : returned 15" ∷
    codes "29 stop 0 : stopped" ∷
    codes "30 return 0 : returned 16" ∷
    codes "31 stop 0 : stopped" ∷
    codes "32 return 0 : no-life" ∷
    codes "group 1 view 1.0 0" ∷
    codes "log 0 empty" ∷
    codes "lawful" ∷
    [])

abbrev pub JoinAsked : Type 0
JoinAsked = play_text_of (rules_with (0 ∷ 1 ∷ []) 0 64 256) (
    on 2 act.Join ∷ on 0 (act.Hear 1) ∷ on 2 (act.Hear 3) ∷ on 0 (act.Hear 4) ∷ on 2 (act.Hear 5) ∷ on 2 (act.Hear 6) ∷ on 0 (act.Hear 7) ∷
    on 0 act.Tick ∷ on 2 (act.Hear 8) ∷ on 0 (act.Hear 9) ∷ on 2 (act.Hear 10) ∷ on 2 act.Take ∷
    []) ≡ lines (
    codes "1 join 2 : asked | 1 JoinAsk to all" ∷
    codes "2 hear 0 1 : numbered 2 | 2 Bcast to 1 | 3 Welcome to 2" ∷
    codes "3 hear 2 3 : welcomed 2 | 4 Fetch to 0" ∷
    codes "4 hear 0 4 : served 2 | 5 Piece to 2 | 6 Piece to 2" ∷
    codes "5 hear 2 5 : stored 1 | 7 Ack to 0" ∷
    codes "6 hear 2 6 : elsewhere" ∷
    codes "7 hear 0 7 : noted" ∷
    codes "8 tick 0 : ticked | 8 Accept to 1,2" ∷
    codes "9 hear 2 8 : gap 2 | 9 Nack to 0" ∷
    codes "10 hear 0 9 : served 1 | 10 Bcast to 2" ∷
    codes "11 hear 2 10 : stored 2" ∷
    codes "12 take 2 : took 2 join 2" ∷
    codes "group 1 view 1.0 0,1" ∷
    codes "group 2 join 2" ∷
    codes "log 0 empty" ∷
    codes "log 1 empty" ∷
    codes "log 2 2 join 2" ∷
    codes "lawful" ∷
    [])

abbrev pub JoinWithLostWelcome : Type 0
JoinWithLostWelcome = play_text_of (rules_with (0 ∷ 1 ∷ []) 0 64 256) (
    on 2 act.Join ∷ on 0 (act.Hear 1) ∷ on 1 (act.Hear 2) ∷ on 1 (act.Reset 1 0) ∷ on 0 (act.Hear 4) ∷ on 2 (act.Hear 4) ∷ on 1 (act.Hear 5) ∷
    on 1 (act.Hear 6) ∷ on 2 act.Tick ∷ on 1 (act.Hear 9) ∷ on 2 (act.Hear 3) ∷ on 2 (act.Hear 10) ∷ on 1 (act.Hear 11) ∷ on 2 (act.Hear 12) ∷
    on 2 (act.Hear 13) ∷ on 2 (act.Hear 14) ∷ on 1 (act.Hear 15) ∷ on 1 act.Tick ∷ on 2 (act.Hear 16) ∷ on 2 act.Take ∷
    []) ≡ lines (
    codes "1 join 2 : asked | 1 JoinAsk to all" ∷
    codes "2 hear 0 1 : numbered 2 | 2 Bcast to 1 | 3 Welcome to 2" ∷
    codes "3 hear 1 2 : stored 2" ∷
    codes "4 reset 1 1 : waiting 0,2 | 4 Invite to 0,2" ∷
    codes "5 hear 0 4 : voted | 5 Vote to 1" ∷
    codes "6 hear 2 4 : voted | 6 Vote to 1" ∷
    codes "7 hear 1 5 : waiting 2" ∷
    codes "8 hear 1 6 : decided 3 0,1,2 | 7 Accept to 0,2 | 8 Result to 0,2" ∷
    codes "9 tick 2 : ticked | 9 JoinAsk to all" ∷
    codes "10 hear 1 9 : welcomed 2 | 10 Welcome to 2" ∷
    codes "11 hear 2 3 : elsewhere" ∷
    codes "12 hear 2 10 : welcomed 2 | 11 Fetch to 1" ∷
    codes "13 hear 1 11 : served 3 | 12 Piece to 2 | 13 Piece to 2 | 14 Piece to 2" ∷
    codes "14 hear 2 12 : stored 1" ∷
    codes "15 hear 2 13 : stored 2" ∷
    codes "16 hear 2 14 : stored 3 | 15 Ack to 1" ∷
    codes "17 hear 1 15 : noted" ∷
    codes "18 tick 1 : ticked | 16 Accept to 0,2 | 17 Result to 0" ∷
    codes "19 hear 2 16 : advanced 3 | 18 Ack to 1" ∷
    codes "20 take 2 : took 2 join 2" ∷
    codes "group 1 view 1.0 0,1" ∷
    codes "group 2 join 2" ∷
    codes "group 3 view 2.1 0,1,2" ∷
    codes "log 0 empty" ∷
    codes "log 1 empty" ∷
    codes "log 2 2 join 2" ∷
    codes "lawful" ∷
    [])

abbrev pub LeaveAsked : Type 0
LeaveAsked = play_text_of (rules_with (0 ∷ 1 ∷ []) 0 64 256) (
    on 1 act.Leave ∷ on 0 (act.Hear 1) ∷ on 1 (act.Hear 3) ∷ on 0 (act.Hear 1) ∷ on 1 act.State ∷ on 1 (act.Send (97 ∷ [])) ∷
    []) ≡ lines (
    codes "1 leave 1 : asked | 1 LeaveAsk to 0" ∷
    codes "2 hear 0 1 : numbered 2 | 2 Bcast to 1 | 3 Gone to 1" ∷
    codes "3 hear 1 3 : departed" ∷
    codes "4 hear 0 1 : let-go 2 | 4 Gone to 1" ∷
    codes "5 state 1 : departed" ∷
    codes "6 send 1 61 : not-member" ∷
    codes "group 1 view 1.0 0,1" ∷
    codes "group 2 leave 1" ∷
    codes "log 0 empty" ∷
    codes "log 1 empty" ∷
    codes "lawful" ∷
    [])

abbrev pub OnlyFounderLeaves : Type 0
OnlyFounderLeaves = play_text_of (rules_with (0 ∷ []) 0 64 256) (
    on 0 act.Leave ∷
    []) ≡ lines (
    codes "1 leave 0 : departed" ∷
    codes "group 1 view 1.0 0" ∷
    codes "group 2 leave 0" ∷
    codes "log 0 empty" ∷
    codes "lawful" ∷
    [])

abbrev pub ReturnAfterLeave : Type 0
ReturnAfterLeave = play_text_of (rules_with (0 ∷ 1 ∷ []) 0 64 256) (
    on 1 act.Leave ∷ on 0 (act.Hear 1) ∷ on 1 (act.Hear 3) ∷ on 1 act.Return ∷ on 1 act.Join ∷ on 0 (act.Hear 4) ∷ on 1 (act.Hear 2) ∷
    on 1 (act.Hear 5) ∷ on 0 (act.Hear 1) ∷
    []) ≡ lines (
    codes "1 leave 1 : asked | 1 LeaveAsk to 0" ∷
    codes "2 hear 0 1 : numbered 2 | 2 Bcast to 1 | 3 Gone to 1" ∷
    codes "3 hear 1 3 : departed" ∷
    codes "4 return 1 : returned 2" ∷
    codes "5 join 1 : asked | 4 JoinAsk to all" ∷
    codes "6 hear 0 4 : numbered 3 | 5 Welcome to 1/2" ∷
    codes "7 hear 1 2 : not-addressed" ∷
    codes "8 hear 1 5 : welcomed 3 | 6 Fetch to 0" ∷
    codes "9 hear 0 1 : stranger" ∷
    codes "group 1 view 1.0 0,1" ∷
    codes "group 2 leave 1" ∷
    codes "group 3 join 1/2" ∷
    codes "log 0 empty" ∷
    codes "log 1 empty" ∷
    codes "log 1/2 empty" ∷
    codes "lawful" ∷
    [])

abbrev pub ReturnAfterStop : Type 0
ReturnAfterStop = play_text_of (rules_with (0 ∷ 1 ∷ []) 1 64 256) (
    on 1 act.Stop ∷ on 1 act.Return ∷ on 1 act.Join ∷ on 0 (act.Hear 1) ∷ on 0 (act.Reset 1 1) ∷ on 0 (act.GiveUp 1) ∷ on 0 (act.Hear 1) ∷
    on 0 act.Return ∷
    []) ≡ lines (
    codes "1 stop 1 : stopped" ∷
    codes "2 return 1 : returned 2" ∷
    codes "3 join 1 : asked | 1 JoinAsk to all" ∷
    codes "4 hear 0 1 : occupied 1" ∷
    codes "5 reset 0 1 : waiting 1 | 2 Invite to 1" ∷
    codes "6 giveup 0 1 : decided 2 0" ∷
    codes "7 hear 0 1 : numbered 3 | 3 Welcome to 1/2" ∷
    codes "8 return 0 : running 1" ∷
    codes "group 1 view 1.0 0,1" ∷
    codes "group 2 view 2.0 0" ∷
    codes "group 3 join 1/2" ∷
    codes "log 0 empty" ∷
    codes "log 1 empty" ∷
    codes "lawful" ∷
    [])

abbrev pub ReturnedLeaverStops : Type 0
ReturnedLeaverStops = play_text_of (rules_with (0 ∷ 1 ∷ []) 0 64 256) (
    on 1 act.Leave ∷ on 0 (act.Hear 1) ∷ on 1 (act.Hear 3) ∷ on 1 act.Return ∷ on 1 act.Join ∷ on 0 (act.Hear 4) ∷ on 1 (act.Hear 5) ∷ on 1 act.Stop ∷
    on 0 (act.Reset 1 0) ∷ on 0 (act.GiveUp 1) ∷ on 0 (act.GiveUp 17) ∷ on 0 (act.GiveUp 33) ∷ on 1 act.Return ∷ on 1 act.Join ∷ on 0 (act.Hear 4) ∷
    on 0 (act.Hear 8) ∷
    []) ≡ lines (
    codes "1 leave 1 : asked | 1 LeaveAsk to 0" ∷
    codes "2 hear 0 1 : numbered 2 | 2 Bcast to 1 | 3 Gone to 1" ∷
    codes "3 hear 1 3 : departed" ∷
    codes "4 return 1 : returned 2" ∷
    codes "5 join 1 : asked | 4 JoinAsk to all" ∷
    codes "6 hear 0 4 : numbered 3 | 5 Welcome to 1/2" ∷
    codes "7 hear 1 5 : welcomed 3 | 6 Fetch to 0" ∷
    codes "8 stop 1 : stopped" ∷
    codes "9 reset 0 1 : waiting 1/2 | 7 Invite to 1/2" ∷
    codes "10 giveup 0 1 : waiting 1/2" ∷
    codes "11 giveup 0 1/2 : decided 4 0" ∷
    codes "12 giveup 0 1/3 : not-stopped" ∷
    codes "13 return 1 : returned 3" ∷
    codes "14 join 1 : asked | 8 JoinAsk to all" ∷
    codes "15 hear 0 4 : stranger" ∷
    codes "16 hear 0 8 : numbered 5 | 9 Welcome to 1/3" ∷
    codes "group 1 view 1.0 0,1" ∷
    codes "group 2 leave 1" ∷
    codes "group 3 join 1/2" ∷
    codes "group 4 view 2.0 0" ∷
    codes "group 5 join 1/3" ∷
    codes "log 0 empty" ∷
    codes "log 1 empty" ∷
    codes "log 1/2 empty" ∷
    codes "void from 8" ∷
    [])
