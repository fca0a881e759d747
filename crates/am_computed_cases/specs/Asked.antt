-- Scripts and their texts. Written by tools/rows.py from cases/asked.
use Rattle.std.specs.Prelude.{◌≡◌, [], ◌∷◌, codes}
use Rattle.am_group.specs.declared.event.Act.TheVariants as act
use Rattle.am_group_defs.specs.Play.{play_text_of}
use Rattle.am_computed_cases.specs.Scripts.{rules_with, on, lines}

abbrev pub AskedAfterALeave : Type 0
AskedAfterALeave = play_text_of (rules_with (0 ∷ 1 ∷ 2 ∷ []) 0 64 256) (
    on 2 act.Leave ∷ on 0 (act.Reset 1 0) ∷ on 1 (act.Hear 2) ∷ on 2 (act.Hear 2) ∷ on 0 (act.Hear 3) ∷ on 0 (act.Hear 4) ∷ on 1 (act.Hear 6) ∷
    on 0 (act.Hear 1) ∷ on 0 (act.Ask 2) ∷ on 2 act.Stop ∷
    []) ≡ lines (
    codes "1 leave 2 : asked | 1 LeaveAsk to 0,1" ∷
    codes "2 reset 0 1 : waiting 1,2 | 2 Invite to 1,2" ∷
    codes "3 hear 1 2 : voted | 3 Vote to 0" ∷
    codes "4 hear 2 2 : voted | 4 Vote to 0" ∷
    codes "5 hear 0 3 : waiting 2" ∷
    codes "6 hear 0 4 : decided 2 0,1,2 | 5 Accept to 1,2 | 6 Result to 1,2" ∷
    codes "7 hear 1 6 : stored 2 | 7 Ack to 0" ∷
    codes "8 hear 0 1 : numbered 3 | 8 Bcast to 1,2" ∷
    codes "9 ask 0 2 : decided 2 0,1,2" ∷
    codes "10 stop 2 : stopped" ∷
    codes "group 1 view 1.0 0,1,2" ∷
    codes "group 2 view 2.0 0,1,2" ∷
    codes "group 3 leave 2" ∷
    codes "log 0 empty" ∷
    codes "log 1 empty" ∷
    codes "log 2 empty" ∷
    codes "void from 10" ∷
    [])

abbrev pub AskedBeforeTwoStops : Type 0
AskedBeforeTwoStops = play_text_of (rules_with (0 ∷ 1 ∷ 2 ∷ 3 ∷ []) 1 64 256) (
    on 2 act.Leave ∷ on 0 (act.Reset 1 1) ∷ on 1 (act.Hear 2) ∷ on 2 (act.Hear 2) ∷ on 3 (act.Hear 2) ∷ on 0 (act.Hear 3) ∷ on 0 (act.Hear 4) ∷
    on 0 (act.Hear 5) ∷ on 1 (act.Hear 6) ∷ on 3 (act.Hear 6) ∷ on 0 (act.Hear 1) ∷ on 0 (act.Ask 2) ∷ on 2 (act.Hear 6) ∷ on 2 (act.Hear 9) ∷
    on 2 act.Tick ∷ on 0 (act.Hear 10) ∷ on 0 (act.Hear 11) ∷ on 0 act.Take ∷ on 0 act.Take ∷ on 0 act.Take ∷ on 2 act.Stop ∷ on 0 act.Stop ∷
    on 1 (act.Reset 1 1) ∷ on 3 (act.Hear 14) ∷ on 1 (act.GiveUp 0) ∷ on 1 (act.GiveUp 2) ∷ on 1 (act.Hear 15) ∷ on 3 (act.Hear 16) ∷
    on 1 (act.Hear 17) ∷ on 1 act.Take ∷ on 1 act.Take ∷ on 1 act.Take ∷
    []) ≡ lines (
    codes "1 leave 2 : asked | 1 LeaveAsk to 0,1,3" ∷
    codes "2 reset 0 1 : waiting 1,2,3 | 2 Invite to 1,2,3" ∷
    codes "3 hear 1 2 : voted | 3 Vote to 0" ∷
    codes "4 hear 2 2 : voted | 4 Vote to 0" ∷
    codes "5 hear 3 2 : voted | 5 Vote to 0" ∷
    codes "6 hear 0 3 : waiting 2,3" ∷
    codes "7 hear 0 4 : waiting 3" ∷
    codes "8 hear 0 5 : decided 2 0,1,2,3 | 6 Result to 1,2,3" ∷
    codes "9 hear 1 6 : stored 2 | 7 Ack to 0" ∷
    codes "10 hear 3 6 : stored 2 | 8 Ack to 0" ∷
    codes "11 hear 0 1 : numbered 3 | 9 Bcast to 1,2,3" ∷
    codes "12 ask 0 2 : decided 2 0,1,2,3" ∷
    codes "13 hear 2 6 : stored 2 | 10 Ack to 0" ∷
    codes "14 hear 2 9 : stored 3" ∷
    codes "15 tick 2 : ticked | 11 LeaveAsk to 0,1,3" ∷
    codes "16 hear 0 10 : accepted 2 | 12 Accept to 1,3" ∷
    codes "17 hear 0 11 : again | 13 Accept to 1,3" ∷
    codes "18 take 0 : took 1 view 1.0 0,1,2,3" ∷
    codes "19 take 0 : took 2 view 2.0 0,1,2,3" ∷
    codes "20 take 0 : took 3 leave 2" ∷
    codes "21 stop 2 : stopped" ∷
    codes "22 stop 0 : stopped" ∷
    codes "23 reset 1 1 : waiting 0,2,3 | 14 Invite to 0,2,3" ∷
    codes "24 hear 3 14 : voted | 15 Vote to 1" ∷
    codes "25 giveup 1 0 : waiting 2,3" ∷
    codes "26 giveup 1 2 : waiting 3" ∷
    codes "27 hear 1 15 : decided 3 1,3 | 16 Result to 3" ∷
    codes "28 hear 3 16 : stored 3 | 17 Ack to 1" ∷
    codes "29 hear 1 17 : accepted 3 | 18 Accept to 3" ∷
    codes "30 take 1 : took 1 view 1.0 0,1,2,3" ∷
    codes "31 take 1 : took 2 view 2.0 0,1,2,3" ∷
    codes "32 take 1 : took 3 view 3.1 1,3" ∷
    codes "group 1 view 1.0 0,1,2,3" ∷
    codes "group 2 view 2.0 0,1,2,3" ∷
    codes "group 3 leave 2" ∷
    codes "log 0 1 view 1.0 0,1,2,3" ∷
    codes "log 0 2 view 2.0 0,1,2,3" ∷
    codes "log 0 3 leave 2" ∷
    codes "log 1 1 view 1.0 0,1,2,3" ∷
    codes "log 1 2 view 2.0 0,1,2,3" ∷
    codes "log 1 3 view 3.1 1,3" ∷
    codes "log 2 empty" ∷
    codes "log 3 empty" ∷
    codes "void from 22" ∷
    [])

abbrev pub AskedInAnotherView : Type 0
AskedInAnotherView = play_text_of (rules_with (0 ∷ 1 ∷ 2 ∷ []) 0 64 256) (
    on 2 act.Leave ∷ on 0 (act.Reset 1 0) ∷ on 1 (act.Hear 2) ∷ on 2 (act.Hear 2) ∷ on 0 (act.Hear 3) ∷ on 0 (act.Hear 4) ∷ on 1 (act.Hear 6) ∷
    on 1 (act.Reset 1 0) ∷ on 0 (act.Hear 8) ∷ on 2 (act.Hear 8) ∷ on 1 (act.Hear 9) ∷ on 1 (act.Hear 10) ∷ on 0 (act.Hear 12) ∷ on 1 (act.Hear 1) ∷
    on 0 (act.Hear 14) ∷ on 0 (act.Ask 2) ∷ on 2 act.Stop ∷
    []) ≡ lines (
    codes "1 leave 2 : asked | 1 LeaveAsk to 0,1" ∷
    codes "2 reset 0 1 : waiting 1,2 | 2 Invite to 1,2" ∷
    codes "3 hear 1 2 : voted | 3 Vote to 0" ∷
    codes "4 hear 2 2 : voted | 4 Vote to 0" ∷
    codes "5 hear 0 3 : waiting 2" ∷
    codes "6 hear 0 4 : decided 2 0,1,2 | 5 Accept to 1,2 | 6 Result to 1,2" ∷
    codes "7 hear 1 6 : stored 2 | 7 Ack to 0" ∷
    codes "8 reset 1 1 : waiting 0,2 | 8 Invite to 0,2" ∷
    codes "9 hear 0 8 : voted | 9 Vote to 1" ∷
    codes "10 hear 2 8 : voted | 10 Vote to 1" ∷
    codes "11 hear 1 9 : waiting 2" ∷
    codes "12 hear 1 10 : decided 3 0,1,2 | 11 Accept to 0,2 | 12 Result to 0,2" ∷
    codes "13 hear 0 12 : stored 3 | 13 Ack to 1" ∷
    codes "14 hear 1 1 : numbered 4 | 14 Bcast to 0,2" ∷
    codes "15 hear 0 14 : stored 4" ∷
    codes "16 ask 0 2 : decided 2 0,1,2" ∷
    codes "17 stop 2 : stopped" ∷
    codes "group 1 view 1.0 0,1,2" ∷
    codes "group 2 view 2.0 0,1,2" ∷
    codes "group 3 view 3.1 0,1,2" ∷
    codes "group 4 leave 2" ∷
    codes "log 0 empty" ∷
    codes "log 1 empty" ∷
    codes "log 2 empty" ∷
    codes "void from 17" ∷
    [])

abbrev pub DecidedByFetching : Type 0
DecidedByFetching = play_text_of (rules_with (0 ∷ 1 ∷ 2 ∷ []) 0 64 256) (
    on 2 act.Leave ∷ on 0 (act.Send (97 ∷ [])) ∷ on 1 (act.Reset 1 0) ∷ on 0 (act.Hear 3) ∷ on 2 (act.Hear 3) ∷ on 1 (act.Hear 4) ∷ on 1 (act.Hear 5)
    ∷
    on 0 (act.Hear 6) ∷ on 1 (act.Hear 7) ∷ on 0 (act.Hear 9) ∷ on 1 (act.Hear 1) ∷ on 1 (act.Ask 2) ∷ on 2 act.Stop ∷
    []) ≡ lines (
    codes "1 leave 2 : asked | 1 LeaveAsk to 0,1" ∷
    codes "2 send 0 61 : queued 1 | 2 Bcast to 1,2" ∷
    codes "3 reset 1 1 : waiting 0,2 | 3 Invite to 0,2" ∷
    codes "4 hear 0 3 : voted | 4 Vote to 1" ∷
    codes "5 hear 2 3 : voted | 5 Vote to 1" ∷
    codes "6 hear 1 4 : waiting 2" ∷
    codes "7 hear 1 5 : fetching 0 2 | 6 Fetch to 0" ∷
    codes "8 hear 0 6 : served 1 | 7 Piece to 1" ∷
    codes "9 hear 1 7 : decided 3 0,1,2 | 8 Accept to 0,2 | 9 Result to 0,2" ∷
    codes "10 hear 0 9 : stored 3 | 10 Ack to 1" ∷
    codes "11 hear 1 1 : numbered 4 | 11 Bcast to 0,2" ∷
    codes "12 ask 1 2 : decided 3 0,1,2" ∷
    codes "13 stop 2 : stopped" ∷
    codes "group 1 view 1.0 0,1,2" ∷
    codes "group 2 data 0 1 61" ∷
    codes "group 3 view 2.1 0,1,2" ∷
    codes "group 4 leave 2" ∷
    codes "log 0 empty" ∷
    codes "log 1 empty" ∷
    codes "log 2 empty" ∷
    codes "void from 13" ∷
    [])

abbrev pub DecidedByGivingUp : Type 0
DecidedByGivingUp = play_text_of (rules_with (0 ∷ 1 ∷ 2 ∷ 3 ∷ []) 1 64 256) (
    on 2 act.Leave ∷ on 3 act.Stop ∷ on 0 (act.Reset 1 1) ∷ on 1 (act.Hear 2) ∷ on 2 (act.Hear 2) ∷ on 0 (act.Hear 3) ∷ on 0 (act.Hear 4) ∷
    on 0 (act.GiveUp 3) ∷ on 1 (act.Hear 5) ∷ on 0 (act.Hear 6) ∷ on 0 (act.Hear 1) ∷ on 0 (act.Ask 2) ∷ on 2 act.Stop ∷ on 1 act.Stop ∷
    []) ≡ lines (
    codes "1 leave 2 : asked | 1 LeaveAsk to 0,1,3" ∷
    codes "2 stop 3 : stopped" ∷
    codes "3 reset 0 1 : waiting 1,2,3 | 2 Invite to 1,2,3" ∷
    codes "4 hear 1 2 : voted | 3 Vote to 0" ∷
    codes "5 hear 2 2 : voted | 4 Vote to 0" ∷
    codes "6 hear 0 3 : waiting 2,3" ∷
    codes "7 hear 0 4 : waiting 3" ∷
    codes "8 giveup 0 3 : decided 2 0,1,2 | 5 Result to 1,2" ∷
    codes "9 hear 1 5 : stored 2 | 6 Ack to 0" ∷
    codes "10 hear 0 6 : accepted 2 | 7 Accept to 1,2" ∷
    codes "11 hear 0 1 : numbered 3 | 8 Bcast to 1,2" ∷
    codes "12 ask 0 2 : decided 2 0,1,2" ∷
    codes "13 stop 2 : stopped" ∷
    codes "14 stop 1 : stopped" ∷
    codes "group 1 view 1.0 0,1,2,3" ∷
    codes "group 2 view 2.0 0,1,2" ∷
    codes "log 0 empty" ∷
    codes "log 1 empty" ∷
    codes "log 2 empty" ∷
    codes "log 3 empty" ∷
    codes "void from 14" ∷
    [])
