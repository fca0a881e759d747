-- Scripts and their texts. Written by tools/rows.py from cases/repaired.
use Rattle.std.specs.Prelude.{◌≡◌, [], ◌∷◌, codes}
use Rattle.am_group.specs.declared.event.Act.TheVariants as act
use Rattle.am_group_defs.specs.Play.{settled_play_text_of}
use Rattle.am_computed_cases.specs.Scripts.{rules_with, on, lines}

abbrev pub LeaverStopsUnaccepted : Type 0
LeaverStopsUnaccepted = settled_play_text_of (rules_with (0 ∷ 1 ∷ 2 ∷ []) 2 2 256) (
    on 2 act.Leave ∷ on 0 (act.Hear 1) ∷ on 1 (act.Hear 2) ∷ on 2 act.Stop ∷
    []) ≡ lines (
    codes "1 leave 2 : asked | 1 LeaveAsk to 0,1" ∷
    codes "2 hear 0 1 : numbered 2 | 2 Bcast to 1,2" ∷
    codes "3 hear 1 2 : stored 2 | 3 Ack to 0" ∷
    codes "4 stop 2 : stopped" ∷
    codes "5 tick 0 : ticked | 4 Accept to 1" ∷
    codes "6 tick 1 : ticked | 5 Ack to 0" ∷
    codes "7 tick 3 : idle" ∷
    codes "8 tick 4 : idle" ∷
    codes "9 tick 5 : idle" ∷
    codes "10 tick 6 : idle" ∷
    codes "11 tick 7 : idle" ∷
    codes "12 tick 8 : idle" ∷
    codes "13 tick 9 : idle" ∷
    codes "14 tick 10 : idle" ∷
    codes "15 tick 11 : idle" ∷
    codes "16 tick 12 : idle" ∷
    codes "17 tick 13 : idle" ∷
    codes "18 tick 14 : idle" ∷
    codes "19 tick 15 : idle" ∷
    codes "20 hear 1 4 : known | 6 Ack to 0" ∷
    codes "21 hear 0 5 : noted" ∷
    codes "22 hear 0 6 : noted" ∷
    codes "23 tick 0 : ticked | 7 Accept to 1" ∷
    codes "24 tick 1 : ticked | 8 Ack to 0" ∷
    codes "25 tick 3 : idle" ∷
    codes "26 tick 4 : idle" ∷
    codes "27 tick 5 : idle" ∷
    codes "28 tick 6 : idle" ∷
    codes "29 tick 7 : idle" ∷
    codes "30 tick 8 : idle" ∷
    codes "31 tick 9 : idle" ∷
    codes "32 tick 10 : idle" ∷
    codes "33 tick 11 : idle" ∷
    codes "34 tick 12 : idle" ∷
    codes "35 tick 13 : idle" ∷
    codes "36 tick 14 : idle" ∷
    codes "37 tick 15 : idle" ∷
    codes "38 hear 1 7 : known | 9 Ack to 0" ∷
    codes "39 hear 0 8 : noted" ∷
    codes "40 hear 0 9 : noted" ∷
    codes "41 tick 0 : ticked | 10 Accept to 1" ∷
    codes "42 tick 1 : ticked | 11 Ack to 0" ∷
    codes "43 tick 3 : idle" ∷
    codes "44 tick 4 : idle" ∷
    codes "45 tick 5 : idle" ∷
    codes "46 tick 6 : idle" ∷
    codes "47 tick 7 : idle" ∷
    codes "48 tick 8 : idle" ∷
    codes "49 tick 9 : idle" ∷
    codes "50 tick 10 : idle" ∷
    codes "51 tick 11 : idle" ∷
    codes "52 tick 12 : idle" ∷
    codes "53 tick 13 : idle" ∷
    codes "54 tick 14 : idle" ∷
    codes "55 tick 15 : idle" ∷
    codes "56 hear 1 10 : known | 12 Ack to 0" ∷
    codes "57 hear 0 11 : noted" ∷
    codes "58 hear 0 12 : noted" ∷
    codes "59 tick 0 : ticked | 13 Accept to 1" ∷
    codes "60 tick 1 : ticked | 14 Ack to 0" ∷
    codes "61 tick 3 : idle" ∷
    codes "62 tick 4 : idle" ∷
    codes "63 tick 5 : idle" ∷
    codes "64 tick 6 : idle" ∷
    codes "65 tick 7 : idle" ∷
    codes "66 tick 8 : idle" ∷
    codes "67 tick 9 : idle" ∷
    codes "68 tick 10 : idle" ∷
    codes "69 tick 11 : idle" ∷
    codes "70 tick 12 : idle" ∷
    codes "71 tick 13 : idle" ∷
    codes "72 tick 14 : idle" ∷
    codes "73 tick 15 : idle" ∷
    codes "74 hear 1 13 : known | 15 Ack to 0" ∷
    codes "75 hear 0 14 : noted" ∷
    codes "76 hear 0 15 : noted" ∷
    codes "77 tick 0 : ticked | 16 Accept to 1" ∷
    codes "78 tick 1 : ticked | 17 Ack to 0" ∷
    codes "79 tick 3 : idle" ∷
    codes "80 tick 4 : idle" ∷
    codes "81 tick 5 : idle" ∷
    codes "82 tick 6 : idle" ∷
    codes "83 tick 7 : idle" ∷
    codes "84 tick 8 : idle" ∷
    codes "85 tick 9 : idle" ∷
    codes "86 tick 10 : idle" ∷
    codes "87 tick 11 : idle" ∷
    codes "88 tick 12 : idle" ∷
    codes "89 tick 13 : idle" ∷
    codes "90 tick 14 : idle" ∷
    codes "91 tick 15 : idle" ∷
    codes "92 hear 1 16 : known | 18 Ack to 0" ∷
    codes "93 hear 0 17 : noted" ∷
    codes "94 hear 0 18 : noted" ∷
    codes "group 1 view 1.0 0,1,2" ∷
    codes "log 0 empty" ∷
    codes "log 1 empty" ∷
    codes "log 2 empty" ∷
    codes "lawful" ∷
    [])

abbrev pub MemberBehindACrash : Type 0
MemberBehindACrash = settled_play_text_of (rules_with (0 ∷ 1 ∷ 2 ∷ 3 ∷ []) 1 4 256) (
    on 1 (act.Send (170 ∷ [])) ∷ on 0 (act.Hear 1) ∷ on 1 (act.Hear 2) ∷ on 0 act.Stop ∷ on 1 (act.Reset 1 1) ∷ on 2 (act.Hear 4) ∷ on 3 (act.Hear 4)
    ∷
    on 1 (act.Hear 5) ∷ on 1 (act.Hear 6) ∷ on 1 (act.GiveUp 0) ∷ on 2 (act.Hear 7) ∷ on 3 (act.Hear 7) ∷ on 1 (act.Hear 8) ∷ on 1 (act.Hear 9) ∷
    on 2 (act.Hear 10) ∷ on 2 (act.Hear 11) ∷ on 3 (act.Hear 12) ∷ on 3 (act.Hear 13) ∷ on 2 (act.Send (187 ∷ [])) ∷ on 1 (act.Hear 16) ∷
    on 2 (act.Hear 17) ∷
    []) ≡ lines (
    codes "1 send 1 aa : queued 1 | 1 Request to 0" ∷
    codes "2 hear 0 1 : numbered 2 | 2 Bcast to 1,2,3" ∷
    codes "3 hear 1 2 : stored 2 | 3 Ack to 0" ∷
    codes "4 stop 0 : stopped" ∷
    codes "5 reset 1 1 : waiting 0,2,3 | 4 Invite to 0,2,3" ∷
    codes "6 hear 2 4 : voted | 5 Vote to 1" ∷
    codes "7 hear 3 4 : voted | 6 Vote to 1" ∷
    codes "8 hear 1 5 : waiting 0,3" ∷
    codes "9 hear 1 6 : waiting 0" ∷
    codes "10 giveup 1 0 : decided 3 1,2,3 | 7 Result to 2,3" ∷
    codes "11 hear 2 7 : catching 2 | 8 Fetch to 1" ∷
    codes "12 hear 3 7 : catching 2 | 9 Fetch to 1" ∷
    codes "13 hear 1 8 : served 2 | 10 Piece to 2 | 11 Piece to 2" ∷
    codes "14 hear 1 9 : served 2 | 12 Piece to 3 | 13 Piece to 3" ∷
    codes "15 hear 2 10 : stored 2" ∷
    codes "16 hear 2 11 : stored 3 | 14 Ack to 1" ∷
    codes "17 hear 3 12 : stored 2" ∷
    codes "18 hear 3 13 : stored 3 | 15 Ack to 1" ∷
    codes "19 send 2 bb : queued 1 | 16 Request to 1" ∷
    codes "20 hear 1 16 : numbered 4 | 17 Bcast to 2,3" ∷
    codes "21 hear 2 17 : stored 4 | 18 Ack to 1" ∷
    codes "22 tick 1 : ticked | 19 Accept to 2,3 | 20 Result to 3" ∷
    codes "23 tick 2 : ticked | 21 Ack to 1" ∷
    codes "24 tick 3 : ticked | 22 Ack to 1" ∷
    codes "25 tick 4 : idle" ∷
    codes "26 tick 5 : idle" ∷
    codes "27 tick 6 : idle" ∷
    codes "28 tick 7 : idle" ∷
    codes "29 tick 8 : idle" ∷
    codes "30 tick 9 : idle" ∷
    codes "31 tick 10 : idle" ∷
    codes "32 tick 11 : idle" ∷
    codes "33 tick 12 : idle" ∷
    codes "34 tick 13 : idle" ∷
    codes "35 tick 14 : idle" ∷
    codes "36 tick 15 : idle" ∷
    codes "37 hear 2 19 : known | 23 Ack to 1" ∷
    codes "38 hear 3 19 : gap 4 | 24 Nack to 1" ∷
    codes "39 hear 3 20 : known | 25 Ack to 1" ∷
    codes "40 hear 1 21 : accepted 4 | 26 Accept to 2,3" ∷
    codes "41 hear 1 22 : noted" ∷
    codes "42 hear 1 23 : noted" ∷
    codes "43 hear 1 24 : served 1 | 27 Bcast to 3" ∷
    codes "44 hear 1 25 : noted" ∷
    codes "45 hear 2 26 : advanced 4" ∷
    codes "46 hear 3 26 : gap 4 | 28 Nack to 1" ∷
    codes "47 hear 3 27 : stored 4" ∷
    codes "48 hear 1 28 : served 1 | 29 Bcast to 3" ∷
    codes "49 hear 3 29 : known" ∷
    codes "50 tick 1 : ticked | 30 Accept to 2,3" ∷
    codes "51 tick 2 : ticked | 31 Ack to 1" ∷
    codes "52 tick 3 : ticked | 32 Ack to 1" ∷
    codes "53 tick 4 : idle" ∷
    codes "54 tick 5 : idle" ∷
    codes "55 tick 6 : idle" ∷
    codes "56 tick 7 : idle" ∷
    codes "57 tick 8 : idle" ∷
    codes "58 tick 9 : idle" ∷
    codes "59 tick 10 : idle" ∷
    codes "60 tick 11 : idle" ∷
    codes "61 tick 12 : idle" ∷
    codes "62 tick 13 : idle" ∷
    codes "63 tick 14 : idle" ∷
    codes "64 tick 15 : idle" ∷
    codes "65 hear 2 30 : known | 33 Ack to 1" ∷
    codes "66 hear 3 30 : known | 34 Ack to 1" ∷
    codes "67 hear 1 31 : noted" ∷
    codes "68 hear 1 32 : noted" ∷
    codes "69 hear 1 33 : noted" ∷
    codes "70 hear 1 34 : noted" ∷
    codes "71 tick 1 : ticked | 35 Accept to 2,3" ∷
    codes "72 tick 2 : ticked | 36 Ack to 1" ∷
    codes "73 tick 3 : ticked | 37 Ack to 1" ∷
    codes "74 tick 4 : idle" ∷
    codes "75 tick 5 : idle" ∷
    codes "76 tick 6 : idle" ∷
    codes "77 tick 7 : idle" ∷
    codes "78 tick 8 : idle" ∷
    codes "79 tick 9 : idle" ∷
    codes "80 tick 10 : idle" ∷
    codes "81 tick 11 : idle" ∷
    codes "82 tick 12 : idle" ∷
    codes "83 tick 13 : idle" ∷
    codes "84 tick 14 : idle" ∷
    codes "85 tick 15 : idle" ∷
    codes "86 hear 2 35 : known | 38 Ack to 1" ∷
    codes "87 hear 3 35 : known | 39 Ack to 1" ∷
    codes "88 hear 1 36 : noted" ∷
    codes "89 hear 1 37 : noted" ∷
    codes "90 hear 1 38 : noted" ∷
    codes "91 hear 1 39 : noted" ∷
    codes "92 tick 1 : ticked | 40 Accept to 2,3" ∷
    codes "93 tick 2 : ticked | 41 Ack to 1" ∷
    codes "94 tick 3 : ticked | 42 Ack to 1" ∷
    codes "95 tick 4 : idle" ∷
    codes "96 tick 5 : idle" ∷
    codes "97 tick 6 : idle" ∷
    codes "98 tick 7 : idle" ∷
    codes "99 tick 8 : idle" ∷
    codes "100 tick 9 : idle" ∷
    codes "101 tick 10 : idle" ∷
    codes "102 tick 11 : idle" ∷
    codes "103 tick 12 : idle" ∷
    codes "104 tick 13 : idle" ∷
    codes "105 tick 14 : idle" ∷
    codes "106 tick 15 : idle" ∷
    codes "107 hear 2 40 : known | 43 Ack to 1" ∷
    codes "108 hear 3 40 : known | 44 Ack to 1" ∷
    codes "109 hear 1 41 : noted" ∷
    codes "110 hear 1 42 : noted" ∷
    codes "111 hear 1 43 : noted" ∷
    codes "112 hear 1 44 : noted" ∷
    codes "113 tick 1 : ticked | 45 Accept to 2,3" ∷
    codes "114 tick 2 : ticked | 46 Ack to 1" ∷
    codes "115 tick 3 : ticked | 47 Ack to 1" ∷
    codes "116 tick 4 : idle" ∷
    codes "117 tick 5 : idle" ∷
    codes "118 tick 6 : idle" ∷
    codes "119 tick 7 : idle" ∷
    codes "120 tick 8 : idle" ∷
    codes "121 tick 9 : idle" ∷
    codes "122 tick 10 : idle" ∷
    codes "123 tick 11 : idle" ∷
    codes "124 tick 12 : idle" ∷
    codes "125 tick 13 : idle" ∷
    codes "126 tick 14 : idle" ∷
    codes "127 tick 15 : idle" ∷
    codes "128 hear 2 45 : known | 48 Ack to 1" ∷
    codes "129 hear 3 45 : known | 49 Ack to 1" ∷
    codes "130 hear 1 46 : noted" ∷
    codes "131 hear 1 47 : noted" ∷
    codes "132 hear 1 48 : noted" ∷
    codes "133 hear 1 49 : noted" ∷
    codes "group 1 view 1.0 0,1,2,3" ∷
    codes "group 2 data 1 1 aa" ∷
    codes "group 3 view 2.1 1,2,3" ∷
    codes "group 4 data 2 1 bb" ∷
    codes "log 0 empty" ∷
    codes "log 1 empty" ∷
    codes "log 2 empty" ∷
    codes "log 3 empty" ∷
    codes "lawful" ∷
    [])
