-- Scripts and their texts. Written by tools/rows.py from cases/worked_sends.
use Rattle.std.specs.Prelude.{◌≡◌, [], ◌∷◌, ◌++◌, codes}
use Rattle.am_group.specs.declared.event.Act.TheVariants as act
use Rattle.am_group_defs.specs.Play.{play_text_of, settled_play_text_of}
use Rattle.am_computed_cases.specs.Scripts.{rules_with, on, lines}

abbrev pub Busy : Type 0
Busy = play_text_of (rules_with (0 ∷ 1 ∷ []) 0 64 256) (
    on 1 (act.Send (97 ∷ [])) ∷ on 1 (act.Send (97 ∷ [])) ∷ on 1 (act.Send (97 ∷ [])) ∷ on 1 (act.Send (97 ∷ [])) ∷ on 1 (act.Send (97 ∷ [])) ∷
    []) ≡ lines (
    codes "1 send 1 61 : queued 1 | 1 Request to 0" ∷
    codes "2 send 1 61 : queued 2" ∷
    codes "3 send 1 61 : queued 3" ∷
    codes "4 send 1 61 : queued 4" ∷
    codes "5 send 1 61 : busy 4" ∷
    codes "group 1 view 1.0 0,1" ∷
    codes "log 0 empty" ∷
    codes "log 1 empty" ∷
    codes "lawful" ∷
    [])

abbrev pub CutPackets : Type 0
CutPackets = play_text_of (rules_with (0 ∷ 1 ∷ []) 0 64 256) (
    on 1 (act.Send (97 ∷ [])) ∷ on 0 (act.Cut 1 5) ∷ on 0 (act.Cut 1 20) ∷ on 0 (act.Hear 1) ∷
    []) ≡ lines (
    codes "1 send 1 61 : queued 1 | 1 Request to 0" ∷
    codes "2 cut 0 1 5 : refused 1" ∷
    codes "3 cut 0 1 20 : refused 5" ∷
    codes "4 hear 0 1 : numbered 2 | 2 Bcast to 1" ∷
    codes "group 1 view 1.0 0,1" ∷
    codes "group 2 data 1 1 61" ∷
    codes "log 0 empty" ∷
    codes "log 1 empty" ∷
    codes "lawful" ∷
    [])

abbrev pub LongBody : Type 0
LongBody = play_text_of (rules_with (0 ∷ 1 ∷ 2 ∷ []) 0 64 256) (
    on 1 (act.Send (97 ∷ 97 ∷ 97 ∷ 97 ∷ 97 ∷ 97 ∷ 97 ∷ 97 ∷ 97 ∷ 97 ∷ 97 ∷ 97 ∷ 97 ∷ 97 ∷ 97 ∷ 97 ∷ 97 ∷ 97 ∷ 97 ∷ 97 ∷ 97 ∷ 97 ∷ 97 ∷ 97 ∷ 97 ∷ 97 ∷
    97 ∷ 97 ∷ 97 ∷ 97 ∷ 97 ∷ 97 ∷ 97 ∷ 97 ∷ 97 ∷ 97 ∷ 97 ∷ 97 ∷ 97 ∷ 97 ∷ 97 ∷ 97 ∷ 97 ∷ 97 ∷ 97 ∷ 97 ∷ 97 ∷ 97 ∷ 97 ∷ 97 ∷ 97 ∷ 97 ∷ 97 ∷ 97 ∷ 97 ∷
    97 ∷ 97 ∷ 97 ∷ 97 ∷ 97 ∷ 97 ∷ 97 ∷ 97 ∷ 97 ∷ 97 ∷ 97 ∷ 97 ∷ 97 ∷ 97 ∷ 97 ∷ 97 ∷ 97 ∷ 97 ∷ 97 ∷ 97 ∷ 97 ∷ 97 ∷ 97 ∷ 97 ∷ 97 ∷ 97 ∷ 97 ∷ 97 ∷ 97 ∷
    97 ∷ 97 ∷ 97 ∷ 97 ∷ 97 ∷ 97 ∷ 97 ∷ 97 ∷ 97 ∷ 97 ∷ 97 ∷ 97 ∷ 97 ∷ 97 ∷ 97 ∷ 97 ∷ 97 ∷ 97 ∷ 97 ∷ 97 ∷ 97 ∷ 97 ∷ 97 ∷ 97 ∷ 97 ∷ 97 ∷ 97 ∷ 97 ∷ 97 ∷
    97 ∷ 97 ∷ 97 ∷ 97 ∷ 97 ∷ 97 ∷ 97 ∷ 97 ∷ 97 ∷ 97 ∷ 97 ∷ 97 ∷ 97 ∷ 97 ∷ 97 ∷ 97 ∷ 97 ∷ 97 ∷ 97 ∷ 97 ∷ 97 ∷ 97 ∷ 97 ∷ 97 ∷ 97 ∷ 97 ∷ 97 ∷ 97 ∷ 97 ∷
    97 ∷ 97 ∷ 97 ∷ 97 ∷ 97 ∷ 97 ∷ 97 ∷ 97 ∷ 97 ∷ 97 ∷ 97 ∷ 97 ∷ 97 ∷ 97 ∷ 97 ∷ 97 ∷ 97 ∷ 97 ∷ 97 ∷ 97 ∷ 97 ∷ 97 ∷ 97 ∷ 97 ∷ 97 ∷ 97 ∷ 97 ∷ 97 ∷ 97 ∷
    97 ∷ 97 ∷ 97 ∷ 97 ∷ 97 ∷ 97 ∷ 97 ∷ 97 ∷ 97 ∷ 97 ∷ 97 ∷ 97 ∷ 97 ∷ 97 ∷ 97 ∷ 97 ∷ 97 ∷ 97 ∷ 97 ∷ 97 ∷ 97 ∷ 97 ∷ 97 ∷ 97 ∷ 97 ∷ 97 ∷ 97 ∷ 97 ∷ 97 ∷
    97 ∷ 97 ∷ 97 ∷ 97 ∷ 97 ∷ 97 ∷ 97 ∷ 97 ∷ 97 ∷ 97 ∷ 97 ∷ 97 ∷ 97 ∷ 97 ∷ 97 ∷ 97 ∷ 97 ∷ 97 ∷ 97 ∷ 97 ∷ 97 ∷ 97 ∷ 97 ∷ 97 ∷ 97 ∷ 97 ∷ 97 ∷ 97 ∷ 97 ∷
    97 ∷ 97 ∷ 97 ∷ 97 ∷ 97 ∷ 97 ∷ 97 ∷ 97 ∷ 97 ∷ 97 ∷ 97 ∷ 97 ∷ 97 ∷ 97 ∷ 97 ∷ 97 ∷ 97 ∷ 97 ∷ 97 ∷ 97 ∷ 97 ∷ 97 ∷ 97 ∷ 97 ∷ 97 ∷ 97 ∷ 97 ∷ 97 ∷ [])) ∷
    on 2 (act.Hear 1) ∷ on 0 (act.Hear 1) ∷ on 1 (act.Hear 2) ∷ on 2 (act.Hear 2) ∷
    []) ≡ lines (
    (codes "1 send 1 616161616161616161616161616161616161616161616161616161616161616161616161616161616161616161616161616161616161616"
    ++ codes "161616161616161616161616161616161616161616161616161616161616161616161616161616161616161616161616161616161616161616161616"
    ++ codes "161616161616161616161616161616161616161616161616161616161616161616161616161616161616161616161616161616161616161616161616"
    ++ codes "161616161616161616161616161616161616161616161616161616161616161616161616161616161616161616161616161616161616161616161616"
    ++ codes "1616161616161616161616161616161616161616161 : queued 1 | 1 Spread to 0,2") ∷
    codes "2 hear 2 1 : kept" ∷
    codes "3 hear 0 1 : numbered 2 | 2 Order to 1,2" ∷
    codes "4 hear 1 2 : stored 2" ∷
    codes "5 hear 2 2 : stored 2" ∷
    codes "group 1 view 1.0 0,1,2" ∷
    (codes "group 2 data 1 1 6161616161616161616161616161616161616161616161616161616161616161616161616161616161616161616161616161616"
    ++ codes "161616161616161616161616161616161616161616161616161616161616161616161616161616161616161616161616161616161616161616161616"
    ++ codes "161616161616161616161616161616161616161616161616161616161616161616161616161616161616161616161616161616161616161616161616"
    ++ codes "161616161616161616161616161616161616161616161616161616161616161616161616161616161616161616161616161616161616161616161616"
    ++ codes "161616161616161616161616161616161616161616161616161") ∷
    codes "log 0 empty" ∷
    codes "log 1 empty" ∷
    codes "log 2 empty" ∷
    codes "lawful" ∷
    [])

abbrev pub NoEvents : Type 0
NoEvents = play_text_of (rules_with (0 ∷ 1 ∷ []) 0 64 256) (
    []) ≡ lines (
    codes "group 1 view 1.0 0,1" ∷
    codes "log 0 empty" ∷
    codes "log 1 empty" ∷
    codes "lawful" ∷
    [])

abbrev pub Reordering : Type 0
Reordering = play_text_of (rules_with (0 ∷ 1 ∷ []) 0 64 256) (
    on 0 (act.Send (97 ∷ [])) ∷ on 0 (act.Send (98 ∷ [])) ∷ on 1 (act.Hear 2) ∷ on 0 (act.Hear 3) ∷ on 1 (act.Hear 4) ∷ on 1 (act.Hear 5) ∷
    on 1 (act.Hear 1) ∷
    []) ≡ lines (
    codes "1 send 0 61 : queued 1 | 1 Bcast to 1" ∷
    codes "2 send 0 62 : queued 2 | 2 Bcast to 1" ∷
    codes "3 hear 1 2 : gap 2 | 3 Nack to 0" ∷
    codes "4 hear 0 3 : served 2 | 4 Bcast to 1 | 5 Bcast to 1" ∷
    codes "5 hear 1 4 : stored 2" ∷
    codes "6 hear 1 5 : stored 3" ∷
    codes "7 hear 1 1 : known" ∷
    codes "group 1 view 1.0 0,1" ∷
    codes "group 2 data 0 1 61" ∷
    codes "group 3 data 0 2 62" ∷
    codes "log 0 empty" ∷
    codes "log 1 empty" ∷
    codes "lawful" ∷
    [])

abbrev pub Repeat : Type 0
Repeat = play_text_of (rules_with (0 ∷ 1 ∷ []) 0 64 256) (
    on 1 (act.Send (97 ∷ [])) ∷ on 0 (act.Hear 1) ∷ on 0 (act.Hear 1) ∷
    []) ≡ lines (
    codes "1 send 1 61 : queued 1 | 1 Request to 0" ∷
    codes "2 hear 0 1 : numbered 2 | 2 Bcast to 1" ∷
    codes "3 hear 0 1 : again" ∷
    codes "group 1 view 1.0 0,1" ∷
    codes "group 2 data 1 1 61" ∷
    codes "log 0 empty" ∷
    codes "log 1 empty" ∷
    codes "lawful" ∷
    [])

abbrev pub Settled : Type 0
Settled = settled_play_text_of (rules_with (0 ∷ 1 ∷ []) 0 8 256) (
    on 0 (act.Send (97 ∷ [])) ∷
    []) ≡ lines (
    codes "1 send 0 61 : queued 1 | 1 Bcast to 1" ∷
    codes "2 tick 0 : ticked | 2 Accept to 1" ∷
    codes "3 tick 1 : ticked | 3 Ack to 0" ∷
    codes "4 tick 2 : idle" ∷
    codes "5 tick 3 : idle" ∷
    codes "6 tick 4 : idle" ∷
    codes "7 tick 5 : idle" ∷
    codes "8 tick 6 : idle" ∷
    codes "9 tick 7 : idle" ∷
    codes "10 tick 8 : idle" ∷
    codes "11 tick 9 : idle" ∷
    codes "12 tick 10 : idle" ∷
    codes "13 tick 11 : idle" ∷
    codes "14 tick 12 : idle" ∷
    codes "15 tick 13 : idle" ∷
    codes "16 tick 14 : idle" ∷
    codes "17 tick 15 : idle" ∷
    codes "18 hear 1 2 : gap 2 | 4 Nack to 0" ∷
    codes "19 hear 0 3 : noted" ∷
    codes "20 hear 0 4 : served 1 | 5 Bcast to 1" ∷
    codes "21 hear 1 5 : stored 2" ∷
    codes "22 tick 0 : ticked | 6 Accept to 1" ∷
    codes "23 tick 1 : ticked | 7 Ack to 0" ∷
    codes "24 tick 2 : idle" ∷
    codes "25 tick 3 : idle" ∷
    codes "26 tick 4 : idle" ∷
    codes "27 tick 5 : idle" ∷
    codes "28 tick 6 : idle" ∷
    codes "29 tick 7 : idle" ∷
    codes "30 tick 8 : idle" ∷
    codes "31 tick 9 : idle" ∷
    codes "32 tick 10 : idle" ∷
    codes "33 tick 11 : idle" ∷
    codes "34 tick 12 : idle" ∷
    codes "35 tick 13 : idle" ∷
    codes "36 tick 14 : idle" ∷
    codes "37 tick 15 : idle" ∷
    codes "38 hear 1 6 : known | 8 Ack to 0" ∷
    codes "39 hear 0 7 : noted" ∷
    codes "40 hear 0 8 : noted" ∷
    codes "41 tick 0 : ticked | 9 Accept to 1" ∷
    codes "42 tick 1 : ticked | 10 Ack to 0" ∷
    codes "43 tick 2 : idle" ∷
    codes "44 tick 3 : idle" ∷
    codes "45 tick 4 : idle" ∷
    codes "46 tick 5 : idle" ∷
    codes "47 tick 6 : idle" ∷
    codes "48 tick 7 : idle" ∷
    codes "49 tick 8 : idle" ∷
    codes "50 tick 9 : idle" ∷
    codes "51 tick 10 : idle" ∷
    codes "52 tick 11 : idle" ∷
    codes "53 tick 12 : idle" ∷
    codes "54 tick 13 : idle" ∷
    codes "55 tick 14 : idle" ∷
    codes "56 tick 15 : idle" ∷
    codes "57 hear 1 9 : known | 11 Ack to 0" ∷
    codes "58 hear 0 10 : noted" ∷
    codes "59 hear 0 11 : noted" ∷
    codes "60 tick 0 : ticked | 12 Accept to 1" ∷
    codes "61 tick 1 : ticked | 13 Ack to 0" ∷
    codes "62 tick 2 : idle" ∷
    codes "63 tick 3 : idle" ∷
    codes "64 tick 4 : idle" ∷
    codes "65 tick 5 : idle" ∷
    codes "66 tick 6 : idle" ∷
    codes "67 tick 7 : idle" ∷
    codes "68 tick 8 : idle" ∷
    codes "69 tick 9 : idle" ∷
    codes "70 tick 10 : idle" ∷
    codes "71 tick 11 : idle" ∷
    codes "72 tick 12 : idle" ∷
    codes "73 tick 13 : idle" ∷
    codes "74 tick 14 : idle" ∷
    codes "75 tick 15 : idle" ∷
    codes "76 hear 1 12 : known | 14 Ack to 0" ∷
    codes "77 hear 0 13 : noted" ∷
    codes "78 hear 0 14 : noted" ∷
    codes "79 tick 0 : ticked | 15 Accept to 1" ∷
    codes "80 tick 1 : ticked | 16 Ack to 0" ∷
    codes "81 tick 2 : idle" ∷
    codes "82 tick 3 : idle" ∷
    codes "83 tick 4 : idle" ∷
    codes "84 tick 5 : idle" ∷
    codes "85 tick 6 : idle" ∷
    codes "86 tick 7 : idle" ∷
    codes "87 tick 8 : idle" ∷
    codes "88 tick 9 : idle" ∷
    codes "89 tick 10 : idle" ∷
    codes "90 tick 11 : idle" ∷
    codes "91 tick 12 : idle" ∷
    codes "92 tick 13 : idle" ∷
    codes "93 tick 14 : idle" ∷
    codes "94 tick 15 : idle" ∷
    codes "95 hear 1 15 : known | 17 Ack to 0" ∷
    codes "96 hear 0 16 : noted" ∷
    codes "97 hear 0 17 : noted" ∷
    codes "group 1 view 1.0 0,1" ∷
    codes "group 2 data 0 1 61" ∷
    codes "log 0 empty" ∷
    codes "log 1 empty" ∷
    codes "lawful" ∷
    [])

abbrev pub ShortBody : Type 0
ShortBody = play_text_of (rules_with (0 ∷ 1 ∷ 2 ∷ []) 0 64 256) (
    on 1 (act.Send (97 ∷ 97 ∷ 97 ∷ 97 ∷ 97 ∷ 97 ∷ 97 ∷ 97 ∷ 97 ∷ 97 ∷ 97 ∷ 97 ∷ 97 ∷ 97 ∷ 97 ∷ 97 ∷ 97 ∷ 97 ∷ 97 ∷ 97 ∷ 97 ∷ 97 ∷ 97 ∷ 97 ∷ 97 ∷ 97 ∷
    97 ∷ 97 ∷ 97 ∷ 97 ∷ 97 ∷ 97 ∷ 97 ∷ 97 ∷ 97 ∷ 97 ∷ 97 ∷ 97 ∷ 97 ∷ 97 ∷ 97 ∷ 97 ∷ 97 ∷ 97 ∷ 97 ∷ 97 ∷ 97 ∷ 97 ∷ 97 ∷ 97 ∷ 97 ∷ 97 ∷ 97 ∷ 97 ∷ 97 ∷
    97 ∷ 97 ∷ 97 ∷ 97 ∷ 97 ∷ 97 ∷ 97 ∷ 97 ∷ 97 ∷ 97 ∷ 97 ∷ 97 ∷ 97 ∷ 97 ∷ 97 ∷ 97 ∷ 97 ∷ 97 ∷ 97 ∷ 97 ∷ 97 ∷ 97 ∷ 97 ∷ 97 ∷ 97 ∷ 97 ∷ 97 ∷ 97 ∷ 97 ∷
    97 ∷ 97 ∷ 97 ∷ 97 ∷ 97 ∷ 97 ∷ 97 ∷ 97 ∷ 97 ∷ 97 ∷ 97 ∷ 97 ∷ 97 ∷ 97 ∷ 97 ∷ 97 ∷ 97 ∷ 97 ∷ 97 ∷ 97 ∷ 97 ∷ 97 ∷ 97 ∷ 97 ∷ 97 ∷ 97 ∷ 97 ∷ 97 ∷ 97 ∷
    97 ∷ 97 ∷ 97 ∷ 97 ∷ 97 ∷ 97 ∷ 97 ∷ 97 ∷ 97 ∷ 97 ∷ 97 ∷ 97 ∷ 97 ∷ 97 ∷ 97 ∷ 97 ∷ 97 ∷ 97 ∷ 97 ∷ 97 ∷ 97 ∷ 97 ∷ 97 ∷ 97 ∷ 97 ∷ 97 ∷ 97 ∷ 97 ∷ 97 ∷
    97 ∷ 97 ∷ 97 ∷ 97 ∷ 97 ∷ 97 ∷ 97 ∷ 97 ∷ 97 ∷ 97 ∷ 97 ∷ 97 ∷ 97 ∷ 97 ∷ 97 ∷ 97 ∷ 97 ∷ 97 ∷ 97 ∷ 97 ∷ 97 ∷ 97 ∷ 97 ∷ 97 ∷ 97 ∷ 97 ∷ 97 ∷ 97 ∷ 97 ∷
    97 ∷ 97 ∷ 97 ∷ 97 ∷ 97 ∷ 97 ∷ 97 ∷ 97 ∷ 97 ∷ 97 ∷ 97 ∷ 97 ∷ 97 ∷ 97 ∷ 97 ∷ 97 ∷ 97 ∷ 97 ∷ 97 ∷ 97 ∷ 97 ∷ 97 ∷ 97 ∷ 97 ∷ 97 ∷ 97 ∷ 97 ∷ 97 ∷ 97 ∷
    97 ∷ 97 ∷ 97 ∷ 97 ∷ 97 ∷ 97 ∷ 97 ∷ 97 ∷ 97 ∷ 97 ∷ 97 ∷ 97 ∷ 97 ∷ 97 ∷ 97 ∷ 97 ∷ 97 ∷ 97 ∷ 97 ∷ 97 ∷ 97 ∷ 97 ∷ 97 ∷ 97 ∷ 97 ∷ 97 ∷ 97 ∷ 97 ∷ 97 ∷
    97 ∷ 97 ∷ 97 ∷ 97 ∷ 97 ∷ 97 ∷ 97 ∷ 97 ∷ 97 ∷ 97 ∷ 97 ∷ 97 ∷ 97 ∷ 97 ∷ 97 ∷ 97 ∷ 97 ∷ 97 ∷ 97 ∷ 97 ∷ 97 ∷ 97 ∷ 97 ∷ 97 ∷ 97 ∷ 97 ∷ 97 ∷ [])) ∷
    []) ≡ lines (
    (codes "1 send 1 616161616161616161616161616161616161616161616161616161616161616161616161616161616161616161616161616161616161616"
    ++ codes "161616161616161616161616161616161616161616161616161616161616161616161616161616161616161616161616161616161616161616161616"
    ++ codes "161616161616161616161616161616161616161616161616161616161616161616161616161616161616161616161616161616161616161616161616"
    ++ codes "161616161616161616161616161616161616161616161616161616161616161616161616161616161616161616161616161616161616161616161616"
    ++ codes "16161616161616161616161616161616161616161 : queued 1 | 1 Request to 0") ∷
    codes "group 1 view 1.0 0,1,2" ∷
    codes "log 0 empty" ∷
    codes "log 1 empty" ∷
    codes "log 2 empty" ∷
    codes "lawful" ∷
    [])

abbrev pub SmallestPath : Type 0
SmallestPath = play_text_of (rules_with (0 ∷ 1 ∷ []) 0 64 256) (
    on 1 (act.Send (97 ∷ [])) ∷ on 0 (act.Hear 1) ∷ on 1 (act.Hear 2) ∷ on 1 act.Take ∷ on 1 act.Take ∷ on 1 (act.Done 1) ∷
    []) ≡ lines (
    codes "1 send 1 61 : queued 1 | 1 Request to 0" ∷
    codes "2 hear 0 1 : numbered 2 | 2 Bcast to 1" ∷
    codes "3 hear 1 2 : stored 2" ∷
    codes "4 take 1 : took 1 view 1.0 0,1" ∷
    codes "5 take 1 : took 2 data 1 1 61" ∷
    codes "6 done 1 1 : sent 1 2" ∷
    codes "group 1 view 1.0 0,1" ∷
    codes "group 2 data 1 1 61" ∷
    codes "log 0 empty" ∷
    codes "log 1 1 view 1.0 0,1" ∷
    codes "log 1 2 data 1 1 61" ∷
    codes "lawful" ∷
    [])

abbrev pub SpreadLost : Type 0
SpreadLost = play_text_of (rules_with (0 ∷ 1 ∷ 2 ∷ []) 0 64 0) (
    on 1 (act.Send (97 ∷ [])) ∷ on 0 (act.Hear 1) ∷ on 2 (act.Hear 2) ∷ on 0 (act.Hear 3) ∷ on 2 (act.Hear 4) ∷
    []) ≡ lines (
    codes "1 send 1 61 : queued 1 | 1 Spread to 0,2" ∷
    codes "2 hear 0 1 : numbered 2 | 2 Order to 1,2" ∷
    codes "3 hear 2 2 : no-body 1 1 | 3 Nack to 0" ∷
    codes "4 hear 0 3 : served 1 | 4 Bcast to 2" ∷
    codes "5 hear 2 4 : stored 2" ∷
    codes "group 1 view 1.0 0,1,2" ∷
    codes "group 2 data 1 1 61" ∷
    codes "log 0 empty" ∷
    codes "log 1 empty" ∷
    codes "log 2 empty" ∷
    codes "lawful" ∷
    [])

abbrev pub WindowOfOne : Type 0
WindowOfOne = play_text_of (rules_with (0 ∷ 1 ∷ []) 0 1 256) (
    on 0 act.Take ∷ on 1 act.Take ∷ on 1 (act.Send (97 ∷ [])) ∷ on 0 (act.Hear 1) ∷ on 1 (act.Hear 2) ∷ on 1 (act.Send (98 ∷ [])) ∷ on 0 (act.Hear 3)
    ∷
    on 1 (act.Hear 5) ∷ on 0 act.Take ∷ on 1 act.Take ∷ on 1 (act.Hear 4) ∷ on 0 (act.Hear 6) ∷ on 1 act.Tick ∷ on 0 (act.Hear 7) ∷
    []) ≡ lines (
    codes "1 take 0 : took 1 view 1.0 0,1" ∷
    codes "2 take 1 : took 1 view 1.0 0,1" ∷
    codes "3 send 1 61 : queued 1 | 1 Request to 0" ∷
    codes "4 hear 0 1 : numbered 2 | 2 Bcast to 1" ∷
    codes "5 hear 1 2 : stored 2" ∷
    codes "6 send 1 62 : queued 2 | 3 Request to 0" ∷
    codes "7 hear 0 3 : held 1 2 | 4 Accept to 1 | 5 Hold to 1" ∷
    codes "8 hear 1 5 : put-off 2 1 2" ∷
    codes "9 take 0 : took 2 data 1 1 61" ∷
    codes "10 take 1 : took 2 data 1 1 61" ∷
    codes "11 hear 1 4 : known | 6 Ack to 0" ∷
    codes "12 hear 0 6 : noted" ∷
    codes "13 tick 1 : ticked | 7 Request to 0" ∷
    codes "14 hear 0 7 : numbered 3 | 8 Bcast to 1" ∷
    codes "group 1 view 1.0 0,1" ∷
    codes "group 2 data 1 1 61" ∷
    codes "group 3 data 1 2 62" ∷
    codes "log 0 1 view 1.0 0,1" ∷
    codes "log 0 2 data 1 1 61" ∷
    codes "log 1 1 view 1.0 0,1" ∷
    codes "log 1 2 data 1 1 61" ∷
    codes "lawful" ∷
    [])
