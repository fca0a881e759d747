-- Scripts and their texts. Written by tools/rows.py from cases/worked_resets.
use Rattle.std.specs.Prelude.{◌≡◌, [], ◌∷◌, ◌++◌, codes}
use Rattle.am_group.specs.declared.event.Act.TheVariants as act
use Rattle.am_group_defs.specs.Play.{play_text_of}
use Rattle.am_computed_cases.specs.Scripts.{rules_with, on, lines}

abbrev pub Crowded : Type 0
Crowded = play_text_of (rules_with (0 ∷ 1 ∷ 2 ∷ 3 ∷ 4 ∷ 5 ∷ 6 ∷ 7 ∷ 8 ∷ 9 ∷ 10 ∷ 11 ∷ 12 ∷ 13 ∷ 14 ∷ 15 ∷ []) 0 1 256) (
    on 0 (act.Reset 1 0) ∷ on 1 (act.Hear 1) ∷ on 2 (act.Hear 1) ∷ on 3 (act.Hear 1) ∷ on 4 (act.Hear 1) ∷ on 5 (act.Hear 1) ∷ on 6 (act.Hear 1) ∷
    on 7 (act.Hear 1) ∷ on 8 (act.Hear 1) ∷ on 9 (act.Hear 1) ∷ on 10 (act.Hear 1) ∷ on 11 (act.Hear 1) ∷ on 12 (act.Hear 1) ∷ on 13 (act.Hear 1) ∷
    on 14 (act.Hear 1) ∷ on 15 (act.Hear 1) ∷ on 0 (act.Hear 2) ∷ on 0 (act.Hear 3) ∷ on 0 (act.Hear 4) ∷ on 0 (act.Hear 5) ∷ on 0 (act.Hear 6) ∷
    on 0 (act.Hear 7) ∷ on 0 (act.Hear 8) ∷ on 0 (act.Hear 9) ∷ on 0 (act.Hear 10) ∷ on 0 (act.Hear 11) ∷ on 0 (act.Hear 12) ∷ on 0 (act.Hear 13) ∷
    on 0 (act.Hear 14) ∷ on 0 (act.Hear 15) ∷ on 0 (act.Hear 16) ∷
    []) ≡ lines (
    codes "1 reset 0 1 : waiting 1,2,3,4,5,6,7,8,9,10,11,12,13,14,15 | 1 Invite to all" ∷
    codes "2 hear 1 1 : voted | 2 Vote to 0" ∷
    codes "3 hear 2 1 : voted | 3 Vote to 0" ∷
    codes "4 hear 3 1 : voted | 4 Vote to 0" ∷
    codes "5 hear 4 1 : voted | 5 Vote to 0" ∷
    codes "6 hear 5 1 : voted | 6 Vote to 0" ∷
    codes "7 hear 6 1 : voted | 7 Vote to 0" ∷
    codes "8 hear 7 1 : voted | 8 Vote to 0" ∷
    codes "9 hear 8 1 : voted | 9 Vote to 0" ∷
    codes "10 hear 9 1 : voted | 10 Vote to 0" ∷
    codes "11 hear 10 1 : voted | 11 Vote to 0" ∷
    codes "12 hear 11 1 : voted | 12 Vote to 0" ∷
    codes "13 hear 12 1 : voted | 13 Vote to 0" ∷
    codes "14 hear 13 1 : voted | 14 Vote to 0" ∷
    codes "15 hear 14 1 : voted | 15 Vote to 0" ∷
    codes "16 hear 15 1 : voted | 16 Vote to 0" ∷
    codes "17 hear 0 2 : waiting 2,3,4,5,6,7,8,9,10,11,12,13,14,15" ∷
    codes "18 hear 0 3 : waiting 3,4,5,6,7,8,9,10,11,12,13,14,15" ∷
    codes "19 hear 0 4 : waiting 4,5,6,7,8,9,10,11,12,13,14,15" ∷
    codes "20 hear 0 5 : waiting 5,6,7,8,9,10,11,12,13,14,15" ∷
    codes "21 hear 0 6 : waiting 6,7,8,9,10,11,12,13,14,15" ∷
    codes "22 hear 0 7 : waiting 7,8,9,10,11,12,13,14,15" ∷
    codes "23 hear 0 8 : waiting 8,9,10,11,12,13,14,15" ∷
    codes "24 hear 0 9 : waiting 9,10,11,12,13,14,15" ∷
    codes "25 hear 0 10 : waiting 10,11,12,13,14,15" ∷
    codes "26 hear 0 11 : waiting 11,12,13,14,15" ∷
    codes "27 hear 0 12 : waiting 12,13,14,15" ∷
    codes "28 hear 0 13 : waiting 13,14,15" ∷
    codes "29 hear 0 14 : waiting 14,15" ∷
    codes "30 hear 0 15 : waiting 15" ∷
    codes "31 hear 0 16 : crowded 0 1" ∷
    codes "group 1 view 1.0 0,1,2,3,4,5,6,7,8,9,10,11,12,13,14,15" ∷
    codes "log 0 empty" ∷
    codes "log 1 empty" ∷
    codes "log 2 empty" ∷
    codes "log 3 empty" ∷
    codes "log 4 empty" ∷
    codes "log 5 empty" ∷
    codes "log 6 empty" ∷
    codes "log 7 empty" ∷
    codes "log 8 empty" ∷
    codes "log 9 empty" ∷
    codes "log 10 empty" ∷
    codes "log 11 empty" ∷
    codes "log 12 empty" ∷
    codes "log 13 empty" ∷
    codes "log 14 empty" ∷
    codes "log 15 empty" ∷
    codes "lawful" ∷
    [])

abbrev pub CrowdedGivenUp : Type 0
CrowdedGivenUp = play_text_of (rules_with (0 ∷ 1 ∷ 2 ∷ 3 ∷ 4 ∷ 5 ∷ 6 ∷ 7 ∷ 8 ∷ 9 ∷ 10 ∷ 11 ∷ 12 ∷ 13 ∷ 14 ∷ 15 ∷ []) 0 1 256) (
    on 15 act.Stop ∷ on 0 (act.Reset 1 0) ∷ on 1 (act.Hear 1) ∷ on 2 (act.Hear 1) ∷ on 3 (act.Hear 1) ∷ on 4 (act.Hear 1) ∷ on 5 (act.Hear 1) ∷
    on 6 (act.Hear 1) ∷ on 7 (act.Hear 1) ∷ on 8 (act.Hear 1) ∷ on 9 (act.Hear 1) ∷ on 10 (act.Hear 1) ∷ on 11 (act.Hear 1) ∷ on 12 (act.Hear 1) ∷
    on 13 (act.Hear 1) ∷ on 14 (act.Hear 1) ∷ on 0 (act.Hear 2) ∷ on 0 (act.Hear 3) ∷ on 0 (act.Hear 4) ∷ on 0 (act.Hear 5) ∷ on 0 (act.Hear 6) ∷
    on 0 (act.Hear 7) ∷ on 0 (act.Hear 8) ∷ on 0 (act.Hear 9) ∷ on 0 (act.Hear 10) ∷ on 0 (act.Hear 11) ∷ on 0 (act.Hear 12) ∷ on 0 (act.Hear 13) ∷
    on 0 (act.Hear 14) ∷ on 0 (act.Hear 15) ∷ on 0 (act.GiveUp 15) ∷
    []) ≡ lines (
    codes "1 stop 15 : stopped" ∷
    codes "2 reset 0 1 : waiting 1,2,3,4,5,6,7,8,9,10,11,12,13,14,15 | 1 Invite to all" ∷
    codes "3 hear 1 1 : voted | 2 Vote to 0" ∷
    codes "4 hear 2 1 : voted | 3 Vote to 0" ∷
    codes "5 hear 3 1 : voted | 4 Vote to 0" ∷
    codes "6 hear 4 1 : voted | 5 Vote to 0" ∷
    codes "7 hear 5 1 : voted | 6 Vote to 0" ∷
    codes "8 hear 6 1 : voted | 7 Vote to 0" ∷
    codes "9 hear 7 1 : voted | 8 Vote to 0" ∷
    codes "10 hear 8 1 : voted | 9 Vote to 0" ∷
    codes "11 hear 9 1 : voted | 10 Vote to 0" ∷
    codes "12 hear 10 1 : voted | 11 Vote to 0" ∷
    codes "13 hear 11 1 : voted | 12 Vote to 0" ∷
    codes "14 hear 12 1 : voted | 13 Vote to 0" ∷
    codes "15 hear 13 1 : voted | 14 Vote to 0" ∷
    codes "16 hear 14 1 : voted | 15 Vote to 0" ∷
    codes "17 hear 0 2 : waiting 2,3,4,5,6,7,8,9,10,11,12,13,14,15" ∷
    codes "18 hear 0 3 : waiting 3,4,5,6,7,8,9,10,11,12,13,14,15" ∷
    codes "19 hear 0 4 : waiting 4,5,6,7,8,9,10,11,12,13,14,15" ∷
    codes "20 hear 0 5 : waiting 5,6,7,8,9,10,11,12,13,14,15" ∷
    codes "21 hear 0 6 : waiting 6,7,8,9,10,11,12,13,14,15" ∷
    codes "22 hear 0 7 : waiting 7,8,9,10,11,12,13,14,15" ∷
    codes "23 hear 0 8 : waiting 8,9,10,11,12,13,14,15" ∷
    codes "24 hear 0 9 : waiting 9,10,11,12,13,14,15" ∷
    codes "25 hear 0 10 : waiting 10,11,12,13,14,15" ∷
    codes "26 hear 0 11 : waiting 11,12,13,14,15" ∷
    codes "27 hear 0 12 : waiting 12,13,14,15" ∷
    codes "28 hear 0 13 : waiting 13,14,15" ∷
    codes "29 hear 0 14 : waiting 14,15" ∷
    codes "30 hear 0 15 : waiting 15" ∷
    (codes "31 giveup 0 15 : decided 2 0,1,2,3,4,5,6,7,8,9,10,11,12,13,14 | 16 Accept to 1,2,3,4,5,6,7,8,9,10,11,12,13,14 | 17 Resul"
    ++ codes "t to 1,2,3,4,5,6,7,8,9,10,11,12,13,14") ∷
    codes "group 1 view 1.0 0,1,2,3,4,5,6,7,8,9,10,11,12,13,14,15" ∷
    codes "group 2 view 2.0 0,1,2,3,4,5,6,7,8,9,10,11,12,13,14" ∷
    codes "log 0 empty" ∷
    codes "log 1 empty" ∷
    codes "log 2 empty" ∷
    codes "log 3 empty" ∷
    codes "log 4 empty" ∷
    codes "log 5 empty" ∷
    codes "log 6 empty" ∷
    codes "log 7 empty" ∷
    codes "log 8 empty" ∷
    codes "log 9 empty" ∷
    codes "log 10 empty" ∷
    codes "log 11 empty" ∷
    codes "log 12 empty" ∷
    codes "log 13 empty" ∷
    codes "log 14 empty" ∷
    codes "log 15 empty" ∷
    codes "void from 1" ∷
    [])

abbrev pub CrowdedTaken : Type 0
CrowdedTaken = play_text_of (rules_with (0 ∷ 1 ∷ 2 ∷ 3 ∷ 4 ∷ 5 ∷ 6 ∷ 7 ∷ 8 ∷ 9 ∷ 10 ∷ 11 ∷ 12 ∷ 13 ∷ 14 ∷ 15 ∷ []) 0 1 256) (
    on 0 (act.Reset 1 0) ∷ on 1 (act.Hear 1) ∷ on 2 (act.Hear 1) ∷ on 3 (act.Hear 1) ∷ on 4 (act.Hear 1) ∷ on 5 (act.Hear 1) ∷ on 6 (act.Hear 1) ∷
    on 7 (act.Hear 1) ∷ on 8 (act.Hear 1) ∷ on 9 (act.Hear 1) ∷ on 10 (act.Hear 1) ∷ on 11 (act.Hear 1) ∷ on 12 (act.Hear 1) ∷ on 13 (act.Hear 1) ∷
    on 14 (act.Hear 1) ∷ on 15 (act.Hear 1) ∷ on 0 (act.Hear 2) ∷ on 0 (act.Hear 3) ∷ on 0 (act.Hear 4) ∷ on 0 (act.Hear 5) ∷ on 0 (act.Hear 6) ∷
    on 0 (act.Hear 7) ∷ on 0 (act.Hear 8) ∷ on 0 (act.Hear 9) ∷ on 0 (act.Hear 10) ∷ on 0 (act.Hear 11) ∷ on 0 (act.Hear 12) ∷ on 0 (act.Hear 13) ∷
    on 0 (act.Hear 14) ∷ on 0 (act.Hear 15) ∷ on 0 (act.Hear 16) ∷ on 0 act.Take ∷ on 1 act.Take ∷ on 2 act.Take ∷ on 3 act.Take ∷ on 4 act.Take ∷
    on 5 act.Take ∷ on 6 act.Take ∷ on 7 act.Take ∷ on 8 act.Take ∷ on 9 act.Take ∷ on 10 act.Take ∷ on 11 act.Take ∷ on 12 act.Take ∷ on 13 act.Take
    ∷
    on 14 act.Take ∷ on 15 act.Take ∷ on 0 (act.Reset 1 0) ∷ on 1 (act.Hear 17) ∷ on 2 (act.Hear 17) ∷ on 3 (act.Hear 17) ∷ on 4 (act.Hear 17) ∷
    on 5 (act.Hear 17) ∷ on 6 (act.Hear 17) ∷ on 7 (act.Hear 17) ∷ on 8 (act.Hear 17) ∷ on 9 (act.Hear 17) ∷ on 10 (act.Hear 17) ∷ on 11 (act.Hear 17)
    ∷
    on 12 (act.Hear 17) ∷ on 13 (act.Hear 17) ∷ on 14 (act.Hear 17) ∷ on 15 (act.Hear 17) ∷ on 0 (act.Hear 18) ∷ on 0 (act.Hear 19) ∷
    on 0 (act.Hear 20) ∷ on 0 (act.Hear 21) ∷ on 0 (act.Hear 22) ∷ on 0 (act.Hear 23) ∷ on 0 (act.Hear 24) ∷ on 0 (act.Hear 25) ∷ on 0 (act.Hear 26) ∷
    on 0 (act.Hear 27) ∷ on 0 (act.Hear 28) ∷ on 0 (act.Hear 29) ∷ on 0 (act.Hear 30) ∷ on 0 (act.Hear 31) ∷ on 0 (act.Hear 32) ∷
    []) ≡ lines (
    codes "1 reset 0 1 : waiting 1,2,3,4,5,6,7,8,9,10,11,12,13,14,15 | 1 Invite to all" ∷
    codes "2 hear 1 1 : voted | 2 Vote to 0" ∷
    codes "3 hear 2 1 : voted | 3 Vote to 0" ∷
    codes "4 hear 3 1 : voted | 4 Vote to 0" ∷
    codes "5 hear 4 1 : voted | 5 Vote to 0" ∷
    codes "6 hear 5 1 : voted | 6 Vote to 0" ∷
    codes "7 hear 6 1 : voted | 7 Vote to 0" ∷
    codes "8 hear 7 1 : voted | 8 Vote to 0" ∷
    codes "9 hear 8 1 : voted | 9 Vote to 0" ∷
    codes "10 hear 9 1 : voted | 10 Vote to 0" ∷
    codes "11 hear 10 1 : voted | 11 Vote to 0" ∷
    codes "12 hear 11 1 : voted | 12 Vote to 0" ∷
    codes "13 hear 12 1 : voted | 13 Vote to 0" ∷
    codes "14 hear 13 1 : voted | 14 Vote to 0" ∷
    codes "15 hear 14 1 : voted | 15 Vote to 0" ∷
    codes "16 hear 15 1 : voted | 16 Vote to 0" ∷
    codes "17 hear 0 2 : waiting 2,3,4,5,6,7,8,9,10,11,12,13,14,15" ∷
    codes "18 hear 0 3 : waiting 3,4,5,6,7,8,9,10,11,12,13,14,15" ∷
    codes "19 hear 0 4 : waiting 4,5,6,7,8,9,10,11,12,13,14,15" ∷
    codes "20 hear 0 5 : waiting 5,6,7,8,9,10,11,12,13,14,15" ∷
    codes "21 hear 0 6 : waiting 6,7,8,9,10,11,12,13,14,15" ∷
    codes "22 hear 0 7 : waiting 7,8,9,10,11,12,13,14,15" ∷
    codes "23 hear 0 8 : waiting 8,9,10,11,12,13,14,15" ∷
    codes "24 hear 0 9 : waiting 9,10,11,12,13,14,15" ∷
    codes "25 hear 0 10 : waiting 10,11,12,13,14,15" ∷
    codes "26 hear 0 11 : waiting 11,12,13,14,15" ∷
    codes "27 hear 0 12 : waiting 12,13,14,15" ∷
    codes "28 hear 0 13 : waiting 13,14,15" ∷
    codes "29 hear 0 14 : waiting 14,15" ∷
    codes "30 hear 0 15 : waiting 15" ∷
    codes "31 hear 0 16 : crowded 0 1" ∷
    codes "32 take 0 : took 1 view 1.0 0,1,2,3,4,5,6,7,8,9,10,11,12,13,14,15" ∷
    codes "33 take 1 : took 1 view 1.0 0,1,2,3,4,5,6,7,8,9,10,11,12,13,14,15" ∷
    codes "34 take 2 : took 1 view 1.0 0,1,2,3,4,5,6,7,8,9,10,11,12,13,14,15" ∷
    codes "35 take 3 : took 1 view 1.0 0,1,2,3,4,5,6,7,8,9,10,11,12,13,14,15" ∷
    codes "36 take 4 : took 1 view 1.0 0,1,2,3,4,5,6,7,8,9,10,11,12,13,14,15" ∷
    codes "37 take 5 : took 1 view 1.0 0,1,2,3,4,5,6,7,8,9,10,11,12,13,14,15" ∷
    codes "38 take 6 : took 1 view 1.0 0,1,2,3,4,5,6,7,8,9,10,11,12,13,14,15" ∷
    codes "39 take 7 : took 1 view 1.0 0,1,2,3,4,5,6,7,8,9,10,11,12,13,14,15" ∷
    codes "40 take 8 : took 1 view 1.0 0,1,2,3,4,5,6,7,8,9,10,11,12,13,14,15" ∷
    codes "41 take 9 : took 1 view 1.0 0,1,2,3,4,5,6,7,8,9,10,11,12,13,14,15" ∷
    codes "42 take 10 : took 1 view 1.0 0,1,2,3,4,5,6,7,8,9,10,11,12,13,14,15" ∷
    codes "43 take 11 : took 1 view 1.0 0,1,2,3,4,5,6,7,8,9,10,11,12,13,14,15" ∷
    codes "44 take 12 : took 1 view 1.0 0,1,2,3,4,5,6,7,8,9,10,11,12,13,14,15" ∷
    codes "45 take 13 : took 1 view 1.0 0,1,2,3,4,5,6,7,8,9,10,11,12,13,14,15" ∷
    codes "46 take 14 : took 1 view 1.0 0,1,2,3,4,5,6,7,8,9,10,11,12,13,14,15" ∷
    codes "47 take 15 : took 1 view 1.0 0,1,2,3,4,5,6,7,8,9,10,11,12,13,14,15" ∷
    codes "48 reset 0 1 : waiting 1,2,3,4,5,6,7,8,9,10,11,12,13,14,15 | 17 Invite to all" ∷
    codes "49 hear 1 17 : voted | 18 Vote to 0" ∷
    codes "50 hear 2 17 : voted | 19 Vote to 0" ∷
    codes "51 hear 3 17 : voted | 20 Vote to 0" ∷
    codes "52 hear 4 17 : voted | 21 Vote to 0" ∷
    codes "53 hear 5 17 : voted | 22 Vote to 0" ∷
    codes "54 hear 6 17 : voted | 23 Vote to 0" ∷
    codes "55 hear 7 17 : voted | 24 Vote to 0" ∷
    codes "56 hear 8 17 : voted | 25 Vote to 0" ∷
    codes "57 hear 9 17 : voted | 26 Vote to 0" ∷
    codes "58 hear 10 17 : voted | 27 Vote to 0" ∷
    codes "59 hear 11 17 : voted | 28 Vote to 0" ∷
    codes "60 hear 12 17 : voted | 29 Vote to 0" ∷
    codes "61 hear 13 17 : voted | 30 Vote to 0" ∷
    codes "62 hear 14 17 : voted | 31 Vote to 0" ∷
    codes "63 hear 15 17 : voted | 32 Vote to 0" ∷
    codes "64 hear 0 18 : waiting 2,3,4,5,6,7,8,9,10,11,12,13,14,15" ∷
    codes "65 hear 0 19 : waiting 3,4,5,6,7,8,9,10,11,12,13,14,15" ∷
    codes "66 hear 0 20 : waiting 4,5,6,7,8,9,10,11,12,13,14,15" ∷
    codes "67 hear 0 21 : waiting 5,6,7,8,9,10,11,12,13,14,15" ∷
    codes "68 hear 0 22 : waiting 6,7,8,9,10,11,12,13,14,15" ∷
    codes "69 hear 0 23 : waiting 7,8,9,10,11,12,13,14,15" ∷
    codes "70 hear 0 24 : waiting 8,9,10,11,12,13,14,15" ∷
    codes "71 hear 0 25 : waiting 9,10,11,12,13,14,15" ∷
    codes "72 hear 0 26 : waiting 10,11,12,13,14,15" ∷
    codes "73 hear 0 27 : waiting 11,12,13,14,15" ∷
    codes "74 hear 0 28 : waiting 12,13,14,15" ∷
    codes "75 hear 0 29 : waiting 13,14,15" ∷
    codes "76 hear 0 30 : waiting 14,15" ∷
    codes "77 hear 0 31 : waiting 15" ∷
    codes "78 hear 0 32 : decided 2 0,1,2,3,4,5,6,7,8,9,10,11,12,13,14,15 | 33 Accept to all | 34 Result to all" ∷
    codes "group 1 view 1.0 0,1,2,3,4,5,6,7,8,9,10,11,12,13,14,15" ∷
    codes "group 2 view 3.0 0,1,2,3,4,5,6,7,8,9,10,11,12,13,14,15" ∷
    codes "log 0 1 view 1.0 0,1,2,3,4,5,6,7,8,9,10,11,12,13,14,15" ∷
    codes "log 1 1 view 1.0 0,1,2,3,4,5,6,7,8,9,10,11,12,13,14,15" ∷
    codes "log 2 1 view 1.0 0,1,2,3,4,5,6,7,8,9,10,11,12,13,14,15" ∷
    codes "log 3 1 view 1.0 0,1,2,3,4,5,6,7,8,9,10,11,12,13,14,15" ∷
    codes "log 4 1 view 1.0 0,1,2,3,4,5,6,7,8,9,10,11,12,13,14,15" ∷
    codes "log 5 1 view 1.0 0,1,2,3,4,5,6,7,8,9,10,11,12,13,14,15" ∷
    codes "log 6 1 view 1.0 0,1,2,3,4,5,6,7,8,9,10,11,12,13,14,15" ∷
    codes "log 7 1 view 1.0 0,1,2,3,4,5,6,7,8,9,10,11,12,13,14,15" ∷
    codes "log 8 1 view 1.0 0,1,2,3,4,5,6,7,8,9,10,11,12,13,14,15" ∷
    codes "log 9 1 view 1.0 0,1,2,3,4,5,6,7,8,9,10,11,12,13,14,15" ∷
    codes "log 10 1 view 1.0 0,1,2,3,4,5,6,7,8,9,10,11,12,13,14,15" ∷
    codes "log 11 1 view 1.0 0,1,2,3,4,5,6,7,8,9,10,11,12,13,14,15" ∷
    codes "log 12 1 view 1.0 0,1,2,3,4,5,6,7,8,9,10,11,12,13,14,15" ∷
    codes "log 13 1 view 1.0 0,1,2,3,4,5,6,7,8,9,10,11,12,13,14,15" ∷
    codes "log 14 1 view 1.0 0,1,2,3,4,5,6,7,8,9,10,11,12,13,14,15" ∷
    codes "log 15 1 view 1.0 0,1,2,3,4,5,6,7,8,9,10,11,12,13,14,15" ∷
    codes "lawful" ∷
    [])

abbrev pub LeaverLetGoBehind : Type 0
LeaverLetGoBehind = play_text_of (rules_with (0 ∷ 1 ∷ 2 ∷ []) 0 64 256) (
    on 2 act.Leave ∷ on 0 (act.Reset 1 1) ∷ on 1 (act.Hear 2) ∷ on 2 (act.Hear 2) ∷ on 0 (act.Hear 3) ∷ on 0 (act.Hear 4) ∷ on 1 (act.Hear 5) ∷
    on 0 (act.Hear 6) ∷ on 0 (act.Hear 1) ∷ on 1 (act.Hear 8) ∷ on 0 (act.Hear 9) ∷ on 0 (act.Hear 1) ∷ on 2 (act.Hear 11) ∷ on 1 act.Stop ∷
    []) ≡ lines (
    codes "1 leave 2 : asked | 1 LeaveAsk to 0,1" ∷
    codes "2 reset 0 1 r1 : waiting 1,2 | 2 Invite to 1,2" ∷
    codes "3 hear 1 2 : voted | 3 Vote to 0" ∷
    codes "4 hear 2 2 : voted | 4 Vote to 0" ∷
    codes "5 hear 0 3 : waiting 2" ∷
    codes "6 hear 0 4 : decided 2 0,1,2 | 5 Result to 1,2" ∷
    codes "7 hear 1 5 : stored 2 | 6 Ack to 0" ∷
    codes "8 hear 0 6 : accepted 2 | 7 Accept to 1,2" ∷
    codes "9 hear 0 1 : numbered 3 | 8 Bcast to 1,2" ∷
    codes "10 hear 1 8 : stored 3 | 9 Ack to 0" ∷
    codes "11 hear 0 9 : accepted 3 | 10 Accept to 1" ∷
    codes "12 hear 0 1 : let-go 3 | 11 Gone to 2" ∷
    codes "13 hear 2 11 : departed" ∷
    codes "14 stop 1 : stopped" ∷
    codes "group 1 view 1.0 0,1,2" ∷
    codes "group 2 view 2.0 0,1,2 r1" ∷
    codes "group 3 leave 2" ∷
    codes "log 0 empty" ∷
    codes "log 1 empty" ∷
    codes "log 2 empty" ∷
    codes "lawful" ∷
    [])

abbrev pub LeaverStaysBehind : Type 0
LeaverStaysBehind = play_text_of (rules_with (0 ∷ 1 ∷ 2 ∷ 3 ∷ 4 ∷ 5 ∷ 6 ∷ 7 ∷ []) 3 64 256) (
    on 6 act.Leave ∷ on 0 (act.Hear 1) ∷ on 2 (act.Hear 2) ∷ on 3 (act.Hear 2) ∷ on 4 (act.Hear 2) ∷ on 5 (act.Hear 2) ∷ on 6 (act.Hear 2) ∷
    on 3 act.Leave ∷ on 0 (act.Hear 5) ∷ on 4 act.Leave ∷ on 0 (act.Hear 7) ∷ on 5 act.Leave ∷ on 0 (act.Hear 9) ∷ on 1 (act.Reset 1 3) ∷
    on 6 (act.Hear 11) ∷ on 0 (act.Hear 11) ∷ on 2 (act.Hear 11) ∷ on 7 (act.Hear 11) ∷ on 1 (act.Hear 13) ∷ on 1 (act.Hear 14) ∷ on 1 (act.Hear 15) ∷
    on 0 (act.Hear 16) ∷ on 1 (act.Hear 17) ∷ on 1 (act.Hear 18) ∷ on 1 (act.Hear 19) ∷ on 1 (act.Hear 20) ∷ on 6 act.Tick ∷ on 1 (act.Hear 22) ∷
    on 6 (act.Hear 23) ∷ on 6 (act.Hear 24) ∷ on 6 (act.Hear 25) ∷ on 6 (act.Hear 26) ∷ on 0 act.Stop ∷ on 1 act.Stop ∷ on 2 (act.Reset 1 3) ∷
    on 3 (act.Hear 28) ∷ on 2 (act.Hear 29) ∷ on 4 (act.Hear 28) ∷ on 2 (act.Hear 30) ∷ on 5 (act.Hear 28) ∷ on 2 (act.Hear 31) ∷ on 7 (act.Hear 28) ∷
    on 2 (act.Hear 32) ∷ on 2 (act.GiveUp 0) ∷ on 2 (act.GiveUp 1) ∷ on 3 (act.Hear 33) ∷ on 2 (act.Hear 34) ∷ on 4 (act.Hear 33) ∷ on 2 (act.Hear 35)
    ∷
    on 5 (act.Hear 33) ∷ on 2 (act.Hear 36) ∷ on 3 (act.Hear 37) ∷ on 3 act.Take ∷ on 3 act.Take ∷ on 3 act.Take ∷ on 2 act.Stop ∷
    on 7 (act.Reset 1 3) ∷ on 6 (act.Hear 38) ∷ on 7 (act.Hear 39) ∷ on 7 (act.GiveUp 0) ∷ on 7 (act.GiveUp 1) ∷ on 7 (act.GiveUp 2) ∷
    on 6 (act.Hear 40) ∷ on 7 (act.Hear 41) ∷ on 7 (act.Hear 42) ∷ on 7 (act.Hear 43) ∷ on 7 (act.Hear 44) ∷ on 7 (act.Hear 45) ∷ on 7 act.Take ∷
    on 7 act.Take ∷ on 7 act.Take ∷ on 7 act.Take ∷
    []) ≡ lines (
    codes "1 leave 6 : asked | 1 LeaveAsk to 0,1,2,3,4,5,7" ∷
    codes "2 hear 0 1 : numbered 2 | 2 Bcast to 1,2,3,4,5,6,7" ∷
    codes "3 hear 2 2 : stored 2 | 3 Ack to 0" ∷
    codes "4 hear 3 2 : stored 2 | 4 Ack to 0" ∷
    codes "5 hear 4 2 : stored 2" ∷
    codes "6 hear 5 2 : stored 2" ∷
    codes "7 hear 6 2 : stored 2" ∷
    codes "8 leave 3 : asked | 5 LeaveAsk to 0,1,2,4,5,7" ∷
    codes "9 hear 0 5 : numbered 3 | 6 Bcast to 1,2,3,4,5,7" ∷
    codes "10 leave 4 : asked | 7 LeaveAsk to 0,1,2,3,5,7" ∷
    codes "11 hear 0 7 : numbered 4 | 8 Bcast to 1,2,4,5,7" ∷
    codes "12 leave 5 : asked | 9 LeaveAsk to 0,1,2,3,4,7" ∷
    codes "13 hear 0 9 : numbered 5 | 10 Bcast to 1,2,5,7" ∷
    codes "14 reset 1 1 : waiting 0,2,3,4,5,6,7 | 11 Invite to 0,2,3,4,5,6,7" ∷
    codes "15 hear 6 11 : voted | 12 Vote to 1" ∷
    codes "16 hear 0 11 : voted | 13 Vote to 1" ∷
    codes "17 hear 2 11 : voted | 14 Vote to 1" ∷
    codes "18 hear 7 11 : voted | 15 Vote to 1" ∷
    codes "19 hear 1 13 : waiting 2,7" ∷
    codes "20 hear 1 14 : waiting 7" ∷
    codes "21 hear 1 15 : fetching 0 2 | 16 Fetch to 0" ∷
    codes "22 hear 0 16 : served 4 | 17 Piece to 1 | 18 Piece to 1 | 19 Piece to 1 | 20 Piece to 1" ∷
    codes "23 hear 1 17 : fetching 0 3" ∷
    codes "24 hear 1 18 : fetching 0 4" ∷
    codes "25 hear 1 19 : fetching 0 5" ∷
    codes "26 hear 1 20 : decided 6 0,1,2,7 | 21 Result to 0,2,7" ∷
    codes "27 tick 6 : ticked | 22 Fetch to 1" ∷
    codes "28 hear 1 22 : served 4 | 23 Piece to 6 | 24 Piece to 6 | 25 Piece to 6 | 26 Piece to 6" ∷
    codes "29 hear 6 23 : behind" ∷
    codes "30 hear 6 24 : behind" ∷
    codes "31 hear 6 25 : behind" ∷
    codes "32 hear 6 26 : behind" ∷
    codes "33 stop 0 : stopped" ∷
    codes "34 stop 1 : stopped" ∷
    codes "35 reset 2 1 : waiting 0,1,3,4,5,7 | 27 Invite to 0,1,3,4,5,7" ∷
    codes "36 hear 3 28 : no-packet" ∷
    codes "37 hear 2 29 : no-packet" ∷
    codes "38 hear 4 28 : no-packet" ∷
    codes "39 hear 2 30 : no-packet" ∷
    codes "40 hear 5 28 : no-packet" ∷
    codes "41 hear 2 31 : no-packet" ∷
    codes "42 hear 7 28 : no-packet" ∷
    codes "43 hear 2 32 : no-packet" ∷
    codes "44 giveup 2 0 : waiting 1,3,4,5,7" ∷
    codes "45 giveup 2 1 : waiting 3,4,5,7" ∷
    codes "46 hear 3 33 : no-packet" ∷
    codes "47 hear 2 34 : no-packet" ∷
    codes "48 hear 4 33 : no-packet" ∷
    codes "49 hear 2 35 : no-packet" ∷
    codes "50 hear 5 33 : no-packet" ∷
    codes "51 hear 2 36 : no-packet" ∷
    codes "52 hear 3 37 : no-packet" ∷
    codes "53 take 3 : took 1 view 1.0 0,1,2,3,4,5,6,7" ∷
    codes "54 take 3 : empty" ∷
    codes "55 take 3 : empty" ∷
    codes "56 stop 2 : stopped" ∷
    codes "57 reset 7 1 : waiting 0,1,2,3,4,5,6 | 28 Invite to 0,1,2,3,4,5,6" ∷
    codes "58 hear 6 38 : no-packet" ∷
    codes "59 hear 7 39 : no-packet" ∷
    codes "60 giveup 7 0 : waiting 1,2,3,4,5,6" ∷
    codes "61 giveup 7 1 : waiting 2,3,4,5,6" ∷
    codes "62 giveup 7 2 : waiting 3,4,5,6" ∷
    codes "63 hear 6 40 : no-packet" ∷
    codes "64 hear 7 41 : no-packet" ∷
    codes "65 hear 7 42 : no-packet" ∷
    codes "66 hear 7 43 : no-packet" ∷
    codes "67 hear 7 44 : no-packet" ∷
    codes "68 hear 7 45 : no-packet" ∷
    codes "69 take 7 : took 1 view 1.0 0,1,2,3,4,5,6,7" ∷
    codes "70 take 7 : empty" ∷
    codes "71 take 7 : empty" ∷
    codes "72 take 7 : empty" ∷
    codes "group 1 view 1.0 0,1,2,3,4,5,6,7" ∷
    codes "group 2 leave 6" ∷
    codes "log 0 empty" ∷
    codes "log 1 empty" ∷
    codes "log 2 empty" ∷
    codes "log 3 1 view 1.0 0,1,2,3,4,5,6,7" ∷
    codes "log 4 empty" ∷
    codes "log 5 empty" ∷
    codes "log 6 empty" ∷
    codes "log 7 1 view 1.0 0,1,2,3,4,5,6,7" ∷
    codes "lawful" ∷
    [])

abbrev pub RunningMember : Type 0
RunningMember = play_text_of (rules_with (0 ∷ 1 ∷ 2 ∷ []) 0 64 256) (
    on 1 (act.Reset 1 0) ∷ on 1 (act.GiveUp 0) ∷
    []) ≡ lines (
    codes "1 reset 1 1 : waiting 0,2 | 1 Invite to 0,2" ∷
    codes "2 giveup 1 0 : not-stopped" ∷
    codes "group 1 view 1.0 0,1,2" ∷
    codes "log 0 empty" ∷
    codes "log 1 empty" ∷
    codes "log 2 empty" ∷
    codes "lawful" ∷
    [])

abbrev pub SequencerLeaves : Type 0
SequencerLeaves = play_text_of (rules_with (0 ∷ 1 ∷ []) 0 64 256) (
    on 0 act.Leave ∷ on 1 (act.Hear 1) ∷ on 0 (act.Hear 2) ∷ on 1 (act.Hear 3) ∷ on 0 (act.Hear 5) ∷ on 0 act.Tick ∷ on 1 (act.Hear 7) ∷
    on 0 (act.Hear 9) ∷ on 1 act.Leave ∷
    []) ≡ lines (
    codes "1 leave 0 : asked | 1 HandOver to 1" ∷
    codes "2 hear 1 1 : waiting 0 | 2 Invite to 0" ∷
    codes "3 hear 0 2 : voted | 3 Vote to 1" ∷
    codes "4 hear 1 3 : decided 2 0,1 | 4 Accept to 0 | 5 Result to 0" ∷
    codes "5 hear 0 5 : stored 2 | 6 Ack to 1" ∷
    codes "6 tick 0 : ticked | 7 LeaveAsk to 1" ∷
    codes "7 hear 1 7 : numbered 3 | 8 Bcast to 0 | 9 Gone to 0" ∷
    codes "8 hear 0 9 : departed" ∷
    codes "9 leave 1 : departed" ∷
    codes "group 1 view 1.0 0,1" ∷
    codes "group 2 view 2.1 0,1" ∷
    codes "group 3 leave 0" ∷
    codes "group 4 leave 1" ∷
    codes "log 0 empty" ∷
    codes "log 1 empty" ∷
    codes "lawful" ∷
    [])

abbrev pub SequencerStops : Type 0
SequencerStops = play_text_of (rules_with (0 ∷ 1 ∷ 2 ∷ []) 1 64 256) (
    on 0 (act.Send (97 ∷ [])) ∷ on 0 act.Take ∷ on 0 act.Take ∷ on 1 (act.Hear 1) ∷ on 0 (act.Hear 2) ∷ on 0 act.Take ∷ on 0 act.Stop ∷
    on 1 (act.Reset 1 1) ∷ on 2 (act.Hear 4) ∷ on 1 (act.Hear 5) ∷ on 1 (act.GiveUp 0) ∷ on 2 (act.Hear 6) ∷ on 1 (act.Hear 7) ∷ on 2 (act.Hear 8) ∷
    on 2 (act.Hear 9) ∷ on 1 (act.Hear 10) ∷ on 2 (act.Hear 11) ∷ on 2 act.Take ∷ on 2 act.Take ∷ on 2 act.Take ∷
    []) ≡ lines (
    codes "1 send 0 61 : queued 1 | 1 Bcast to 1,2" ∷
    codes "2 take 0 : took 1 view 1.0 0,1,2" ∷
    codes "3 take 0 : empty" ∷
    codes "4 hear 1 1 : stored 2 | 2 Ack to 0" ∷
    codes "5 hear 0 2 : accepted 2 | 3 Accept to 1,2" ∷
    codes "6 take 0 : took 2 data 0 1 61" ∷
    codes "7 stop 0 : stopped" ∷
    codes "8 reset 1 1 : waiting 0,2 | 4 Invite to 0,2" ∷
    codes "9 hear 2 4 : voted | 5 Vote to 1" ∷
    codes "10 hear 1 5 : waiting 0" ∷
    codes "11 giveup 1 0 : decided 3 1,2 | 6 Result to 2" ∷
    codes "12 hear 2 6 : catching 2 | 7 Fetch to 1" ∷
    codes "13 hear 1 7 : served 2 | 8 Piece to 2 | 9 Piece to 2" ∷
    codes "14 hear 2 8 : stored 2" ∷
    codes "15 hear 2 9 : stored 3 | 10 Ack to 1" ∷
    codes "16 hear 1 10 : accepted 3 | 11 Accept to 2" ∷
    codes "17 hear 2 11 : advanced 3" ∷
    codes "18 take 2 : took 1 view 1.0 0,1,2" ∷
    codes "19 take 2 : took 2 data 0 1 61" ∷
    codes "20 take 2 : took 3 view 2.1 1,2" ∷
    codes "group 1 view 1.0 0,1,2" ∷
    codes "group 2 data 0 1 61" ∷
    codes "group 3 view 2.1 1,2" ∷
    codes "log 0 1 view 1.0 0,1,2" ∷
    codes "log 0 2 data 0 1 61" ∷
    codes "log 1 empty" ∷
    codes "log 2 1 view 1.0 0,1,2" ∷
    codes "log 2 2 data 0 1 61" ∷
    codes "log 2 3 view 2.1 1,2" ∷
    codes "lawful" ∷
    [])
