-- Scripts and their texts. Written by tools/rows.py from cases/directed.
use Rattle.std.specs.Prelude.{◌≡◌, [], ◌∷◌, ◌++◌, codes}
use Rattle.am_group.specs.declared.event.Act.TheVariants as act
use Rattle.am_group_defs.specs.Play.{play_text_of}
use Rattle.am_computed_cases.specs.Scripts.{rules_with, on, lines}

abbrev pub CrowdedAtTheWindow : Type 0
CrowdedAtTheWindow = play_text_of (rules_with (0 ∷ []) 0 1 256) (
    on 0 (act.Reset 1 0) ∷ on 0 (act.Reset 1 0) ∷ on 0 (act.Reset 1 0) ∷ on 0 (act.Reset 1 0) ∷ on 0 (act.Reset 1 0) ∷ on 0 (act.Reset 1 0) ∷
    on 0 (act.Reset 1 0) ∷ on 0 (act.Reset 1 0) ∷ on 0 (act.Reset 1 0) ∷ on 0 (act.Reset 1 0) ∷ on 0 (act.Reset 1 0) ∷ on 0 (act.Reset 1 0) ∷
    on 0 (act.Reset 1 0) ∷ on 0 (act.Reset 1 0) ∷ on 0 (act.Reset 1 0) ∷ on 0 (act.Reset 1 0) ∷ on 0 (act.Reset 1 0) ∷ on 0 (act.Reset 1 0) ∷
    on 0 (act.Reset 1 0) ∷ on 0 (act.Reset 1 0) ∷ on 0 (act.Ask 18) ∷
    []) ≡ lines (
    codes "1 reset 0 1 : decided 2 0" ∷
    codes "2 reset 0 1 : decided 3 0" ∷
    codes "3 reset 0 1 : decided 4 0" ∷
    codes "4 reset 0 1 : decided 5 0" ∷
    codes "5 reset 0 1 : decided 6 0" ∷
    codes "6 reset 0 1 : decided 7 0" ∷
    codes "7 reset 0 1 : decided 8 0" ∷
    codes "8 reset 0 1 : decided 9 0" ∷
    codes "9 reset 0 1 : decided 10 0" ∷
    codes "10 reset 0 1 : decided 11 0" ∷
    codes "11 reset 0 1 : decided 12 0" ∷
    codes "12 reset 0 1 : decided 13 0" ∷
    codes "13 reset 0 1 : decided 14 0" ∷
    codes "14 reset 0 1 : decided 15 0" ∷
    codes "15 reset 0 1 : decided 16 0" ∷
    codes "16 reset 0 1 : crowded 0 16" ∷
    codes "17 reset 0 1 : crowded 0 16" ∷
    codes "18 reset 0 1 : crowded 0 16" ∷
    codes "19 reset 0 1 : crowded 0 16" ∷
    codes "20 reset 0 1 : crowded 0 16" ∷
    codes "21 ask 0 18 : overtaken 21.0" ∷
    codes "group 1 view 1.0 0" ∷
    codes "group 2 view 2.0 0" ∷
    codes "group 3 view 3.0 0" ∷
    codes "group 4 view 4.0 0" ∷
    codes "group 5 view 5.0 0" ∷
    codes "group 6 view 6.0 0" ∷
    codes "group 7 view 7.0 0" ∷
    codes "group 8 view 8.0 0" ∷
    codes "group 9 view 9.0 0" ∷
    codes "group 10 view 10.0 0" ∷
    codes "group 11 view 11.0 0" ∷
    codes "group 12 view 12.0 0" ∷
    codes "group 13 view 13.0 0" ∷
    codes "group 14 view 14.0 0" ∷
    codes "group 15 view 15.0 0" ∷
    codes "group 16 view 16.0 0" ∷
    codes "log 0 empty" ∷
    codes "lawful" ∷
    [])

abbrev pub MemberLagsFirst : Type 0
MemberLagsFirst = play_text_of (rules_with (0 ∷ 1 ∷ 2 ∷ 3 ∷ 4 ∷ 5 ∷ []) 1 3 256) (
    on 6 act.Leave ∷ on 3 act.Take ∷ on 3 act.Take ∷ on 1 (act.Reset 2 1) ∷ on 0 (act.Hear 1) ∷ on 3 (act.Hear 1) ∷ on 4 (act.Hear 1) ∷
    on 5 (act.Hear 1) ∷ on 1 (act.Hear 2) ∷ on 1 (act.Hear 3) ∷ on 1 (act.Hear 4) ∷ on 1 (act.Hear 5) ∷ on 2 (act.Hear 1) ∷ on 1 (act.Hear 6) ∷
    on 0 (act.Hear 7) ∷ on 3 (act.Hear 7) ∷ on 4 (act.Hear 7) ∷ on 5 (act.Hear 7) ∷ on 0 act.Take ∷ on 0 act.Take ∷ on 0 act.Take ∷ on 1 act.Take ∷
    on 1 act.Take ∷ on 1 act.Take ∷ on 2 act.Take ∷ on 2 act.Take ∷ on 2 act.Take ∷ on 5 act.Take ∷ on 5 act.Take ∷ on 5 act.Take ∷
    on 0 (act.Send (120 ∷ [])) ∷ on 2 (act.Hear 7) ∷ on 1 (act.Hear 13) ∷ on 2 act.Take ∷ on 2 act.Take ∷ on 3 act.Take ∷ on 3 act.Take ∷
    on 4 act.Take ∷ on 4 act.Take ∷ on 5 act.Take ∷ on 5 act.Take ∷ on 3 act.Stop ∷ on 1 (act.Reset 1 1) ∷ on 0 (act.Hear 15) ∷ on 2 (act.Hear 15) ∷
    on 4 (act.Hear 15) ∷ on 5 (act.Hear 15) ∷ on 1 (act.Hear 16) ∷ on 1 (act.Hear 17) ∷ on 1 (act.Hear 18) ∷ on 1 (act.Hear 19) ∷ on 1 (act.GiveUp 3)
    ∷
    on 4 (act.Hear 20) ∷ on 5 (act.Hear 20) ∷ on 2 act.Take ∷ on 2 act.Take ∷ on 2 act.Take ∷ on 6 act.Take ∷ on 6 act.Take ∷ on 6 act.Take ∷
    on 1 act.Stop ∷ on 0 (act.Send (120 ∷ [])) ∷ on 2 (act.Hear 14) ∷ on 2 (act.Hear 20) ∷ on 4 (act.Hear 14) ∷ on 0 (act.Hear 14) ∷
    on 0 (act.Hear 20) ∷ on 5 (act.Hear 14) ∷ on 6 (act.Send (120 ∷ [])) ∷ on 6 act.Join ∷ on 0 (act.Hear 25) ∷ on 2 (act.Hear 25) ∷
    on 4 (act.Hear 25) ∷ on 5 (act.Hear 25) ∷ on 2 act.Take ∷ on 2 act.Take ∷ on 5 act.Take ∷ on 5 act.Take ∷ on 6 act.Take ∷ on 6 act.Take ∷
    on 4 act.Stop ∷ on 5 (act.Reset 2 1) ∷ on 0 (act.Hear 26) ∷ on 2 (act.Hear 26) ∷ on 5 (act.Hear 27) ∷ on 5 (act.Hear 28) ∷ on 5 (act.GiveUp 1) ∷
    on 5 (act.GiveUp 3) ∷ on 5 (act.GiveUp 4) ∷ on 0 act.Take ∷ on 0 act.Take ∷ on 0 act.Take ∷ on 0 act.Stop ∷ on 2 act.Stop ∷
    []) ≡ lines (
    codes "1 leave 6 : not-member" ∷
    codes "2 take 3 : took 1 view 1.0 0,1,2,3,4,5" ∷
    codes "3 take 3 : empty" ∷
    codes "4 reset 1 2 : waiting 0,2,3,4,5 | 1 Invite to 0,2,3,4,5" ∷
    codes "5 hear 0 1 : voted | 2 Vote to 1" ∷
    codes "6 hear 3 1 : voted | 3 Vote to 1" ∷
    codes "7 hear 4 1 : voted | 4 Vote to 1" ∷
    codes "8 hear 5 1 : voted | 5 Vote to 1" ∷
    codes "9 hear 1 2 : waiting 2,3,4,5" ∷
    codes "10 hear 1 3 : waiting 2,4,5" ∷
    codes "11 hear 1 4 : waiting 2,5" ∷
    codes "12 hear 1 5 : waiting 2" ∷
    codes "13 hear 2 1 : voted | 6 Vote to 1" ∷
    codes "14 hear 1 6 : decided 2 0,1,2,3,4,5 | 7 Result to 0,2,3,4,5" ∷
    codes "15 hear 0 7 : stored 2 | 8 Ack to 1" ∷
    codes "16 hear 3 7 : stored 2 | 9 Ack to 1" ∷
    codes "17 hear 4 7 : stored 2 | 10 Ack to 1" ∷
    codes "18 hear 5 7 : stored 2 | 11 Ack to 1" ∷
    codes "19 take 0 : took 1 view 1.0 0,1,2,3,4,5" ∷
    codes "20 take 0 : empty" ∷
    codes "21 take 0 : empty" ∷
    codes "22 take 1 : took 1 view 1.0 0,1,2,3,4,5" ∷
    codes "23 take 1 : empty" ∷
    codes "24 take 1 : empty" ∷
    codes "25 take 2 : took 1 view 1.0 0,1,2,3,4,5" ∷
    codes "26 take 2 : empty" ∷
    codes "27 take 2 : empty" ∷
    codes "28 take 5 : took 1 view 1.0 0,1,2,3,4,5" ∷
    codes "29 take 5 : empty" ∷
    codes "30 take 5 : empty" ∷
    codes "31 send 0 78 : queued 1 | 12 Request to 1" ∷
    codes "32 hear 2 7 : stored 2 | 13 Ack to 1" ∷
    codes "33 hear 1 13 : accepted 2 | 14 Accept to 0,2,3,4,5" ∷
    codes "34 take 2 : empty" ∷
    codes "35 take 2 : empty" ∷
    codes "36 take 3 : empty" ∷
    codes "37 take 3 : empty" ∷
    codes "38 take 4 : took 1 view 1.0 0,1,2,3,4,5" ∷
    codes "39 take 4 : empty" ∷
    codes "40 take 5 : empty" ∷
    codes "41 take 5 : empty" ∷
    codes "42 stop 3 : stopped" ∷
    codes "43 reset 1 1 : waiting 0,2,3,4,5 | 15 Invite to 0,2,3,4,5" ∷
    codes "44 hear 0 15 : voted | 16 Vote to 1" ∷
    codes "45 hear 2 15 : voted | 17 Vote to 1" ∷
    codes "46 hear 4 15 : voted | 18 Vote to 1" ∷
    codes "47 hear 5 15 : voted | 19 Vote to 1" ∷
    codes "48 hear 1 16 : waiting 2,3,4,5" ∷
    codes "49 hear 1 17 : waiting 3,4,5" ∷
    codes "50 hear 1 18 : waiting 3,5" ∷
    codes "51 hear 1 19 : waiting 3" ∷
    codes "52 giveup 1 3 : decided 3 0,1,2,4,5 | 20 Result to 0,2,4,5" ∷
    codes "53 hear 4 20 : stored 3 | 21 Ack to 1" ∷
    codes "54 hear 5 20 : stored 3 | 22 Ack to 1" ∷
    codes "55 take 2 : empty" ∷
    codes "56 take 2 : empty" ∷
    codes "57 take 2 : empty" ∷
    codes "58 take 6 : not-member" ∷
    codes "59 take 6 : not-member" ∷
    codes "60 take 6 : not-member" ∷
    codes "61 stop 1 : stopped" ∷
    codes "62 send 0 78 : queued 2" ∷
    codes "63 hear 2 14 : elsewhere" ∷
    codes "64 hear 2 20 : stored 3 | 23 Ack to 1" ∷
    codes "65 hear 4 14 : elsewhere" ∷
    codes "66 hear 0 14 : elsewhere" ∷
    codes "67 hear 0 20 : stored 3 | 24 Ack to 1" ∷
    codes "68 hear 5 14 : elsewhere" ∷
    codes "69 send 6 78 : not-member" ∷
    codes "70 join 6 : asked | 25 JoinAsk to all" ∷
    codes "71 hear 0 25 : elsewhere" ∷
    codes "72 hear 2 25 : elsewhere" ∷
    codes "73 hear 4 25 : elsewhere" ∷
    codes "74 hear 5 25 : elsewhere" ∷
    codes "75 take 2 : empty" ∷
    codes "76 take 2 : empty" ∷
    codes "77 take 5 : empty" ∷
    codes "78 take 5 : empty" ∷
    codes "79 take 6 : not-member" ∷
    codes "80 take 6 : not-member" ∷
    codes "81 stop 4 : stopped" ∷
    codes "82 reset 5 2 : waiting 0,1,2,4 | 26 Invite to 0,1,2,4" ∷
    codes "83 hear 0 26 : voted | 27 Vote to 5" ∷
    codes "84 hear 2 26 : voted | 28 Vote to 5" ∷
    codes "85 hear 5 27 : waiting 1,2,4" ∷
    codes "86 hear 5 28 : waiting 1,4" ∷
    codes "87 giveup 5 1 : waiting 4" ∷
    codes "88 giveup 5 3 : waiting 4" ∷
    codes "89 giveup 5 4 : decided 4 0,2,5 | 29 Result to 0,2" ∷
    codes "90 take 0 : empty" ∷
    codes "91 take 0 : empty" ∷
    codes "92 take 0 : empty" ∷
    codes "93 stop 0 : stopped" ∷
    codes "94 stop 2 : stopped" ∷
    codes "group 1 view 1.0 0,1,2,3,4,5" ∷
    codes "group 2 view 2.1 0,1,2,3,4,5" ∷
    codes "log 0 1 view 1.0 0,1,2,3,4,5" ∷
    codes "log 1 1 view 1.0 0,1,2,3,4,5" ∷
    codes "log 2 1 view 1.0 0,1,2,3,4,5" ∷
    codes "log 3 1 view 1.0 0,1,2,3,4,5" ∷
    codes "log 4 1 view 1.0 0,1,2,3,4,5" ∷
    codes "log 5 1 view 1.0 0,1,2,3,4,5" ∷
    codes "void from 61" ∷
    [])

abbrev pub MemberLagsSecond : Type 0
MemberLagsSecond = play_text_of (rules_with (0 ∷ 1 ∷ []) 2 3 256) (
    on 2 (act.Send (120 ∷ [])) ∷ on 1 (act.Send (120 ∷ [])) ∷ on 0 (act.Hear 1) ∷ on 2 act.Join ∷ on 1 (act.Hear 2) ∷ on 1 (act.Hear 3) ∷
    on 0 (act.Hear 3) ∷ on 0 (act.Hear 4) ∷ on 1 (act.Hear 5) ∷ on 1 (act.Hear 6) ∷ on 2 act.Leave ∷ on 1 (act.Reset 1 1) ∷ on 0 (act.Hear 8) ∷
    on 2 (act.Hear 8) ∷ on 1 (act.Hear 9) ∷ on 1 (act.Hear 10) ∷ on 1 act.Stop ∷ on 2 (act.Send (120 ∷ [])) ∷ on 2 act.Leave ∷ on 2 (act.Hear 11) ∷
    on 0 (act.Hear 7) ∷ on 0 (act.Hear 11) ∷ on 0 act.Take ∷ on 0 act.Take ∷ on 2 act.Take ∷ on 2 act.Take ∷ on 0 (act.Reset 1 1) ∷ on 2 (act.Hear 13)
    ∷
    on 0 (act.Hear 14) ∷ on 0 (act.GiveUp 1) ∷ on 2 (act.Hear 15) ∷ on 0 act.Take ∷ on 0 act.Take ∷ on 0 act.Take ∷ on 2 act.Stop ∷
    on 0 (act.Send (120 ∷ [])) ∷ on 0 (act.Send (120 ∷ [])) ∷ on 0 act.Leave ∷ on 0 act.Stop ∷
    []) ≡ lines (
    codes "1 send 2 78 : not-member" ∷
    codes "2 send 1 78 : queued 1 | 1 Request to 0" ∷
    codes "3 hear 0 1 : numbered 2 | 2 Bcast to 1" ∷
    codes "4 join 2 : asked | 3 JoinAsk to all" ∷
    codes "5 hear 1 2 : stored 2 | 4 Ack to 0" ∷
    codes "6 hear 1 3 : elsewhere" ∷
    codes "7 hear 0 3 : numbered 3 | 5 Bcast to 1" ∷
    codes "8 hear 0 4 : accepted 2 | 6 Accept to 1,2" ∷
    codes "9 hear 1 5 : stored 3 | 7 Ack to 0" ∷
    codes "10 hear 1 6 : advanced 2" ∷
    codes "11 leave 2 : not-member" ∷
    codes "12 reset 1 1 r1 : waiting 0,2 | 8 Invite to 0,2" ∷
    codes "13 hear 0 8 : voted | 9 Vote to 1" ∷
    codes "14 hear 2 8 : voted | 10 Vote to 1" ∷
    codes "15 hear 1 9 : waiting 2" ∷
    codes "16 hear 1 10 : decided 4 0,1,2 | 11 Result to 0,2" ∷
    codes "17 stop 1 : stopped" ∷
    codes "18 send 2 78 : not-member" ∷
    codes "19 leave 2 : not-member" ∷
    codes "20 hear 2 11 : elsewhere" ∷
    codes "21 hear 0 7 : elsewhere" ∷
    codes "22 hear 0 11 : stored 4 | 12 Ack to 1" ∷
    codes "23 take 0 : took 1 view 1.0 0,1" ∷
    codes "24 take 0 : took 2 data 1 1 78" ∷
    codes "25 take 2 : not-member" ∷
    codes "26 take 2 : not-member" ∷
    codes "27 reset 0 1 r1 : waiting 1,2 | 13 Invite to 1,2" ∷
    codes "28 hear 2 13 : voted | 14 Vote to 0" ∷
    codes "29 hear 0 14 : waiting 1" ∷
    codes "30 giveup 0 1 : decided 5 0,2 | 15 Result to 2" ∷
    codes "31 hear 2 15 : elsewhere" ∷
    codes "32 take 0 : empty" ∷
    codes "33 take 0 : empty" ∷
    codes "34 take 0 : empty" ∷
    codes "35 stop 2 : stopped" ∷
    codes "36 send 0 78 : queued 1" ∷
    codes "37 send 0 78 : queued 2" ∷
    codes "38 leave 0 : busy 2" ∷
    codes "39 stop 0 : stopped" ∷
    codes "group 1 view 1.0 0,1" ∷
    codes "group 2 data 1 1 78" ∷
    codes "log 0 1 view 1.0 0,1" ∷
    codes "log 0 2 data 1 1 78" ∷
    codes "log 1 empty" ∷
    codes "lawful" ∷
    [])

abbrev pub MemberLagsThird : Type 0
MemberLagsThird = play_text_of (rules_with (0 ∷ 1 ∷ 2 ∷ 3 ∷ []) 0 8 256) (
    on 3 (act.Send (120 ∷ [])) ∷ on 0 (act.Hear 1) ∷ on 3 (act.Hear 2) ∷ on 2 (act.Hear 2) ∷ on 1 (act.Send (120 ∷ [])) ∷ on 1 (act.Hear 2) ∷
    on 0 act.Take ∷ on 0 act.Take ∷ on 0 (act.Reset 2 1) ∷ on 1 (act.Hear 4) ∷ on 2 (act.Hear 4) ∷ on 3 (act.Hear 4) ∷ on 0 (act.Hear 5) ∷
    on 0 (act.Hear 6) ∷ on 0 (act.Hear 7) ∷ on 3 (act.Hear 8) ∷ on 0 act.Take ∷ on 0 act.Take ∷ on 0 act.Take ∷ on 4 act.Take ∷ on 4 act.Take ∷
    on 4 act.Take ∷ on 2 (act.Send (120 ∷ [])) ∷ on 2 (act.Hear 8) ∷ on 0 (act.Hear 3) ∷ on 0 (act.Hear 10) ∷ on 1 (act.Hear 8) ∷
    on 3 (act.Send (120 ∷ [])) ∷ on 0 (act.Hear 9) ∷ on 0 (act.Hear 12) ∷ on 0 act.Stop ∷ on 1 (act.Reset 1 1) ∷ on 2 (act.Hear 14) ∷
    on 3 (act.Hear 14) ∷ on 1 (act.Hear 15) ∷ on 1 (act.Hear 16) ∷ on 1 (act.GiveUp 0) ∷ on 3 (act.Hear 17) ∷ on 4 act.Take ∷ on 4 act.Take ∷
    on 4 act.Take ∷ on 2 act.Stop ∷ on 4 (act.Send (120 ∷ [])) ∷ on 1 (act.Hear 11) ∷ on 1 (act.Hear 18) ∷ on 3 (act.Hear 11) ∷ on 3 (act.Hear 19) ∷
    on 3 (act.Send (120 ∷ [])) ∷ on 3 act.Take ∷ on 3 act.Take ∷ on 4 act.Take ∷ on 4 act.Take ∷ on 4 act.Stop ∷ on 3 (act.Reset 1 1) ∷
    on 1 (act.Hear 20) ∷ on 3 (act.Hear 21) ∷ on 3 (act.GiveUp 0) ∷ on 3 (act.GiveUp 2) ∷ on 3 (act.GiveUp 4) ∷ on 1 act.Stop ∷ on 3 act.Stop ∷
    []) ≡ lines (
    codes "1 send 3 78 : queued 1 | 1 Request to 0" ∷
    codes "2 hear 0 1 : numbered 2 | 2 Bcast to 1,2,3" ∷
    codes "3 hear 3 2 : stored 2" ∷
    codes "4 hear 2 2 : stored 2" ∷
    codes "5 send 1 78 : queued 1 | 3 Request to 0" ∷
    codes "6 hear 1 2 : stored 2" ∷
    codes "7 take 0 : took 1 view 1.0 0,1,2,3" ∷
    codes "8 take 0 : took 2 data 3 1 78" ∷
    codes "9 reset 0 2 r1 : waiting 1,2,3 | 4 Invite to 1,2,3" ∷
    codes "10 hear 1 4 : voted | 5 Vote to 0" ∷
    codes "11 hear 2 4 : voted | 6 Vote to 0" ∷
    codes "12 hear 3 4 : voted | 7 Vote to 0" ∷
    codes "13 hear 0 5 : waiting 2,3" ∷
    codes "14 hear 0 6 : waiting 3" ∷
    codes "15 hear 0 7 : decided 3 0,1,2,3 | 8 Result to 1,2,3" ∷
    codes "16 hear 3 8 : stored 3 | 9 Ack to 0" ∷
    codes "17 take 0 : empty" ∷
    codes "18 take 0 : empty" ∷
    codes "19 take 0 : empty" ∷
    codes "20 take 4 : not-member" ∷
    codes "21 take 4 : not-member" ∷
    codes "22 take 4 : not-member" ∷
    codes "23 send 2 78 : queued 1" ∷
    codes "24 hear 2 8 : stored 3 | 10 Ack to 0" ∷
    codes "25 hear 0 3 : elsewhere" ∷
    codes "26 hear 0 10 : accepted 3 | 11 Accept to 1,2,3" ∷
    codes "27 hear 1 8 : stored 3 | 12 Ack to 0" ∷
    codes "28 send 3 78 : queued 2 | 13 Request to 0" ∷
    codes "29 hear 0 9 : noted" ∷
    codes "30 hear 0 12 : noted" ∷
    codes "31 stop 0 : stopped" ∷
    codes "32 reset 1 1 r1 : waiting 0,2,3 | 14 Invite to 0,2,3" ∷
    codes "33 hear 2 14 : voted | 15 Vote to 1" ∷
    codes "34 hear 3 14 : voted | 16 Vote to 1" ∷
    codes "35 hear 1 15 : waiting 0,3" ∷
    codes "36 hear 1 16 : waiting 0" ∷
    codes "37 giveup 1 0 : decided 4 1,2,3 | 17 Result to 2,3" ∷
    codes "38 hear 3 17 : stored 4 | 18 Ack to 1" ∷
    codes "39 take 4 : not-member" ∷
    codes "40 take 4 : not-member" ∷
    codes "41 take 4 : not-member" ∷
    codes "42 stop 2 : stopped" ∷
    codes "43 send 4 78 : not-member" ∷
    codes "44 hear 1 11 : elsewhere" ∷
    codes "45 hear 1 18 : accepted 4 | 19 Accept to 2,3" ∷
    codes "46 hear 3 11 : elsewhere" ∷
    codes "47 hear 3 19 : advanced 4" ∷
    codes "48 send 3 78 : queued 3" ∷
    codes "49 take 3 : took 1 view 1.0 0,1,2,3" ∷
    codes "50 take 3 : took 2 data 3 1 78" ∷
    codes "51 take 4 : not-member" ∷
    codes "52 take 4 : not-member" ∷
    codes "53 stop 4 : stopped" ∷
    codes "54 reset 3 1 r1 : waiting 1,2 | 20 Invite to 1,2" ∷
    codes "55 hear 1 20 : voted | 21 Vote to 3" ∷
    codes "56 hear 3 21 : waiting 2" ∷
    codes "57 giveup 3 0 : waiting 2" ∷
    codes "58 giveup 3 2 : decided 5 1,3 | 22 Result to 1" ∷
    codes "59 giveup 3 4 : not-coordinator" ∷
    codes "60 stop 1 : stopped" ∷
    codes "61 stop 3 : stopped" ∷
    codes "group 1 view 1.0 0,1,2,3" ∷
    codes "group 2 data 3 1 78" ∷
    codes "group 3 view 2.0 0,1,2,3 r1" ∷
    codes "group 4 view 3.1 1,2,3 r1" ∷
    codes "log 0 1 view 1.0 0,1,2,3" ∷
    codes "log 0 2 data 3 1 78" ∷
    codes "log 1 empty" ∷
    codes "log 2 empty" ∷
    codes "log 3 1 view 1.0 0,1,2,3" ∷
    codes "log 3 2 data 3 1 78" ∷
    codes "void from 60" ∷
    [])

abbrev pub SixteenLives : Type 0
SixteenLives = play_text_of (rules_with (0 ∷ 1 ∷ []) 0 64 256) (
    on 1 act.Stop ∷ on 1 act.Return ∷ on 1 act.Stop ∷ on 1 act.Return ∷ on 1 act.Stop ∷ on 1 act.Return ∷ on 1 act.Stop ∷ on 1 act.Return ∷
    on 1 act.Stop ∷ on 1 act.Return ∷ on 1 act.Stop ∷ on 1 act.Return ∷ on 1 act.Stop ∷ on 1 act.Return ∷ on 1 act.Stop ∷ on 1 act.Return ∷
    on 1 act.Stop ∷ on 1 act.Return ∷ on 1 act.Stop ∷ on 1 act.Return ∷ on 1 act.Stop ∷ on 1 act.Return ∷ on 1 act.Stop ∷ on 1 act.Return ∷
    on 1 act.Stop ∷ on 1 act.Return ∷ on 1 act.Stop ∷ on 1 act.Return ∷ on 1 act.Stop ∷ on 1 act.Return ∷ on 1 act.Stop ∷ on 1 act.Return ∷
    on 1 act.Stop ∷ on 1 act.Return ∷
    []) ≡ lines (
    codes "1 stop 1 : stopped" ∷
    codes "2 return 1 : returned 2" ∷
    codes "3 stop 1 : stopped" ∷
    codes "4 return 1 : returned 3" ∷
    codes "5 stop 1 : stopped" ∷
    codes "6 return 1 : returned 4" ∷
    codes "7 stop 1 : stopped" ∷
    codes "8 return 1 : returned 5" ∷
    codes "9 stop 1 : stopped" ∷
    codes "10 return 1 : returned 6" ∷
    codes "11 stop 1 : stopped" ∷
    codes "12 return 1 : returned 7" ∷
    codes "13 stop 1 : stopped" ∷
    codes "14 return 1 : returned 8" ∷
    codes "15 stop 1 : stopped" ∷
    codes "16 return 1 : returned 9" ∷
    codes "17 stop 1 : stopped" ∷
    codes "18 return 1 : returned 10" ∷
    codes "19 stop 1 : stopped" ∷
    codes "20 return 1 : returned 11" ∷
    codes "21 stop 1 : stopped" ∷
    codes "22 return 1 : returned 12" ∷
    codes "23 stop 1 : stopped" ∷
    codes "24 return 1 : returned 13" ∷
    codes "25 stop 1 : stopped" ∷
    codes "26 return 1 : returned 14" ∷
    codes "27 stop 1 : stopped" ∷
    codes "28 return 1 : returned 15" ∷
    codes "29 stop 1 : stopped" ∷
    codes "30 return 1 : returned 16" ∷
    codes "31 stop 1 : stopped" ∷
    codes "32 return 1 : no-life" ∷
    codes "33 stop 1 : is-stopped" ∷
    codes "34 return 1 : no-life" ∷
    codes "group 1 view 1.0 0,1" ∷
    codes "log 0 empty" ∷
    codes "log 1 empty" ∷
    codes "void from 1" ∷
    [])

abbrev pub SixteenMembers : Type 0
SixteenMembers = play_text_of (rules_with (0 ∷ 1 ∷ 2 ∷ 3 ∷ 4 ∷ 5 ∷ 6 ∷ 7 ∷ 8 ∷ 9 ∷ 10 ∷ 11 ∷ 12 ∷ 13 ∷ 14 ∷ 15 ∷ []) 0 64 256) (
    on 15 act.Stop ∷ on 15 act.Return ∷ on 15 act.Join ∷ on 0 (act.Reset 1 0) ∷ on 1 (act.Hear 2) ∷ on 2 (act.Hear 2) ∷ on 3 (act.Hear 2) ∷
    on 4 (act.Hear 2) ∷ on 5 (act.Hear 2) ∷ on 6 (act.Hear 2) ∷ on 7 (act.Hear 2) ∷ on 8 (act.Hear 2) ∷ on 9 (act.Hear 2) ∷ on 10 (act.Hear 2) ∷
    on 11 (act.Hear 2) ∷ on 12 (act.Hear 2) ∷ on 13 (act.Hear 2) ∷ on 14 (act.Hear 2) ∷ on 0 (act.Hear 3) ∷ on 0 (act.Hear 4) ∷ on 0 (act.Hear 5) ∷
    on 0 (act.Hear 6) ∷ on 0 (act.Hear 7) ∷ on 0 (act.Hear 8) ∷ on 0 (act.Hear 9) ∷ on 0 (act.Hear 10) ∷ on 0 (act.Hear 11) ∷ on 0 (act.Hear 12) ∷
    on 0 (act.Hear 13) ∷ on 0 (act.Hear 14) ∷ on 0 (act.Hear 15) ∷ on 0 (act.Hear 16) ∷ on 0 (act.GiveUp 15) ∷ on 0 (act.Hear 1) ∷
    on 0 (act.Send (170 ∷ [])) ∷ on 0 act.Tick ∷
    []) ≡ lines (
    codes "1 stop 15 : stopped" ∷
    codes "2 return 15 : returned 2" ∷
    codes "3 join 15 : asked | 1 JoinAsk to all" ∷
    codes "4 reset 0 1 : waiting 1,2,3,4,5,6,7,8,9,10,11,12,13,14,15 | 2 Invite to all" ∷
    codes "5 hear 1 2 : voted | 3 Vote to 0" ∷
    codes "6 hear 2 2 : voted | 4 Vote to 0" ∷
    codes "7 hear 3 2 : voted | 5 Vote to 0" ∷
    codes "8 hear 4 2 : voted | 6 Vote to 0" ∷
    codes "9 hear 5 2 : voted | 7 Vote to 0" ∷
    codes "10 hear 6 2 : voted | 8 Vote to 0" ∷
    codes "11 hear 7 2 : voted | 9 Vote to 0" ∷
    codes "12 hear 8 2 : voted | 10 Vote to 0" ∷
    codes "13 hear 9 2 : voted | 11 Vote to 0" ∷
    codes "14 hear 10 2 : voted | 12 Vote to 0" ∷
    codes "15 hear 11 2 : voted | 13 Vote to 0" ∷
    codes "16 hear 12 2 : voted | 14 Vote to 0" ∷
    codes "17 hear 13 2 : voted | 15 Vote to 0" ∷
    codes "18 hear 14 2 : voted | 16 Vote to 0" ∷
    codes "19 hear 0 3 : waiting 2,3,4,5,6,7,8,9,10,11,12,13,14,15" ∷
    codes "20 hear 0 4 : waiting 3,4,5,6,7,8,9,10,11,12,13,14,15" ∷
    codes "21 hear 0 5 : waiting 4,5,6,7,8,9,10,11,12,13,14,15" ∷
    codes "22 hear 0 6 : waiting 5,6,7,8,9,10,11,12,13,14,15" ∷
    codes "23 hear 0 7 : waiting 6,7,8,9,10,11,12,13,14,15" ∷
    codes "24 hear 0 8 : waiting 7,8,9,10,11,12,13,14,15" ∷
    codes "25 hear 0 9 : waiting 8,9,10,11,12,13,14,15" ∷
    codes "26 hear 0 10 : waiting 9,10,11,12,13,14,15" ∷
    codes "27 hear 0 11 : waiting 10,11,12,13,14,15" ∷
    codes "28 hear 0 12 : waiting 11,12,13,14,15" ∷
    codes "29 hear 0 13 : waiting 12,13,14,15" ∷
    codes "30 hear 0 14 : waiting 13,14,15" ∷
    codes "31 hear 0 15 : waiting 14,15" ∷
    codes "32 hear 0 16 : waiting 15" ∷
    (codes "33 giveup 0 15 : decided 2 0,1,2,3,4,5,6,7,8,9,10,11,12,13,14 | 17 Accept to 1,2,3,4,5,6,7,8,9,10,11,12,13,14 | 18 Resul"
    ++ codes "t to 1,2,3,4,5,6,7,8,9,10,11,12,13,14") ∷
    codes "34 hear 0 1 : numbered 3 | 19 Bcast to 1,2,3,4,5,6,7,8,9,10,11,12,13,14 | 20 Welcome to 15/2" ∷
    codes "35 send 0 aa : queued 1 | 21 Bcast to 1,2,3,4,5,6,7,8,9,10,11,12,13,14,15/2" ∷
    (codes "36 tick 0 : ticked | 22 Accept to 1,2,3,4,5,6,7,8,9,10,11,12,13,14,15/2 | 23 Result to 1,2,3,4,5,6,7,8,9,10,11,12,13,14,"
    ++ codes "15/2") ∷
    codes "group 1 view 1.0 0,1,2,3,4,5,6,7,8,9,10,11,12,13,14,15" ∷
    codes "group 2 view 2.0 0,1,2,3,4,5,6,7,8,9,10,11,12,13,14" ∷
    codes "group 3 join 15/2" ∷
    codes "group 4 data 0 1 aa" ∷
    codes "log 0 empty" ∷
    codes "log 1 empty" ∷
    codes "log 2 empty" ∷
    codes "log 3 empty" ∷
    codes "log 4 empty" ∷
    codes "log 5 empty" ∷
    codes "log 6 empty" ∷
    codes "log 7 empty" ∷
    codes "log 8 empty" ∷
    codes "log 9 empty" ∷
    codes "log 10 empty" ∷
    codes "log 11 empty" ∷
    codes "log 12 empty" ∷
    codes "log 13 empty" ∷
    codes "log 14 empty" ∷
    codes "log 15 empty" ∷
    codes "void from 1" ∷
    [])
