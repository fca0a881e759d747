-- Scripts and their texts. Written by tools/rows.py from cases/scenarios_first.
use Rattle.std.specs.Prelude.{◌≡◌, [], ◌∷◌, codes}
use Rattle.am_group.specs.declared.event.Act.TheVariants as act
use Rattle.am_group_defs.specs.Play.{play_text_of}
use Rattle.am_computed_cases.specs.Scripts.{rules_with, on, lines}

abbrev pub First1 : Type 0
First1 = play_text_of (rules_with (0 ∷ 1 ∷ []) 0 64 256) (
    on 1 act.Take ∷ on 1 (act.Done 2) ∷ on 0 act.Take ∷ on 0 (act.Done 1) ∷ on 1 (act.Done 2) ∷ on 0 (act.Done 5) ∷ on 0 (act.Done 1) ∷
    on 1 (act.Done 3) ∷ on 1 (act.Done 5) ∷ on 1 (act.Done 3) ∷ on 1 (act.Done 3) ∷ on 1 (act.Done 3) ∷ on 1 (act.Done 4) ∷ on 0 (act.Done 5) ∷
    on 0 (act.Done 1) ∷
    []) ≡ lines (
    codes "1 take 1 : took 1 view 1.0 0,1" ∷
    codes "2 done 1 2 : unknown" ∷
    codes "3 take 0 : took 1 view 1.0 0,1" ∷
    codes "4 done 0 1 : unknown" ∷
    codes "5 done 1 2 : unknown" ∷
    codes "6 done 0 5 : unknown" ∷
    codes "7 done 0 1 : unknown" ∷
    codes "8 done 1 3 : unknown" ∷
    codes "9 done 1 5 : unknown" ∷
    codes "10 done 1 3 : unknown" ∷
    codes "11 done 1 3 : unknown" ∷
    codes "12 done 1 3 : unknown" ∷
    codes "13 done 1 4 : unknown" ∷
    codes "14 done 0 5 : unknown" ∷
    codes "15 done 0 1 : unknown" ∷
    codes "group 1 view 1.0 0,1" ∷
    codes "log 0 1 view 1.0 0,1" ∷
    codes "log 1 1 view 1.0 0,1" ∷
    codes "lawful" ∷
    [])

abbrev pub First10 : Type 0
First10 = play_text_of (rules_with (0 ∷ 1 ∷ 2 ∷ 3 ∷ 4 ∷ []) 0 64 256) (
    on 4 (act.Send (150 ∷ [])) ∷ on 0 (act.Hear 1) ∷ on 2 (act.Hear 2) ∷ on 2 (act.Hear 2) ∷ on 3 (act.Hear 2) ∷ on 1 (act.Hear 2) ∷ on 1 (act.Hear 2)
    ∷
    on 4 (act.Hear 2) ∷ on 4 (act.Hear 2) ∷ on 3 (act.Hear 2) ∷ on 3 (act.Send []) ∷ on 4 act.Take ∷ on 1 act.Take ∷ on 2 (act.Hear 2) ∷
    on 0 (act.Hear 1) ∷ on 0 (act.Hear 3) ∷ on 1 act.Take ∷ on 0 (act.Send (33 ∷ 127 ∷ 56 ∷ 236 ∷ 84 ∷ [])) ∷ on 3 (act.Hear 5) ∷ on 1 (act.Done 4) ∷
    on 2 (act.Hear 5) ∷ on 1 (act.Hear 4) ∷ on 4 (act.Hear 4) ∷ on 4 (act.Hear 5) ∷ on 1 (act.Hear 4) ∷ on 2 (act.Hear 5) ∷ on 2 (act.Hear 4) ∷
    on 1 (act.Hear 2) ∷ on 4 (act.Hear 5) ∷ on 2 (act.Hear 2) ∷ on 0 (act.Hear 6) ∷ on 0 (act.Hear 7) ∷ on 3 (act.Hear 4) ∷ on 0 (act.Hear 7) ∷
    on 3 (act.Hear 5) ∷ on 3 (act.Hear 9) ∷ on 0 (act.Hear 8) ∷ on 1 (act.Hear 5) ∷ on 3 (act.Hear 9) ∷ on 4 (act.Hear 2) ∷ on 0 (act.Done 3) ∷
    on 4 (act.Hear 2) ∷ on 2 (act.Hear 11) ∷ on 1 (act.Hear 5) ∷ on 4 (act.Hear 5) ∷ on 3 (act.Hear 10) ∷ on 2 (act.Hear 12) ∷ on 3 (act.Hear 9) ∷
    on 2 (act.Done 4) ∷ on 0 act.Take ∷ on 3 act.Take ∷ on 2 (act.Hear 11) ∷ on 3 (act.Done 1) ∷ on 0 act.Take ∷ on 3 act.Take ∷ on 2 (act.Hear 11) ∷
    on 3 (act.Hear 2) ∷ on 2 (act.Hear 5) ∷ on 0 (act.Hear 6) ∷ on 3 act.Take ∷
    []) ≡ lines (
    codes "1 send 4 96 : queued 1 | 1 Request to 0" ∷
    codes "2 hear 0 1 : numbered 2 | 2 Bcast to 1,2,3,4" ∷
    codes "3 hear 2 2 : stored 2" ∷
    codes "4 hear 2 2 : known" ∷
    codes "5 hear 3 2 : stored 2" ∷
    codes "6 hear 1 2 : stored 2" ∷
    codes "7 hear 1 2 : known" ∷
    codes "8 hear 4 2 : stored 2" ∷
    codes "9 hear 4 2 : known" ∷
    codes "10 hear 3 2 : known" ∷
    codes "11 send 3 - : queued 1 | 3 Request to 0" ∷
    codes "12 take 4 : took 1 view 1.0 0,1,2,3,4" ∷
    codes "13 take 1 : took 1 view 1.0 0,1,2,3,4" ∷
    codes "14 hear 2 2 : known" ∷
    codes "15 hear 0 1 : again" ∷
    codes "16 hear 0 3 : numbered 3 | 4 Bcast to 1,2,3,4" ∷
    codes "17 take 1 : took 2 data 4 1 96" ∷
    codes "18 send 0 217f38ec54 : queued 1 | 5 Bcast to 1,2,3,4" ∷
    codes "19 hear 3 5 : gap 3 | 6 Nack to 0" ∷
    codes "20 done 1 4 : unknown" ∷
    codes "21 hear 2 5 : gap 3 | 7 Nack to 0" ∷
    codes "22 hear 1 4 : stored 3" ∷
    codes "23 hear 4 4 : stored 3" ∷
    codes "24 hear 4 5 : stored 4" ∷
    codes "25 hear 1 4 : known" ∷
    codes "26 hear 2 5 : gap 3 | 8 Nack to 0" ∷
    codes "27 hear 2 4 : stored 3" ∷
    codes "28 hear 1 2 : known" ∷
    codes "29 hear 4 5 : known" ∷
    codes "30 hear 2 2 : known" ∷
    codes "31 hear 0 6 : served 2 | 9 Bcast to 3 | 10 Bcast to 3" ∷
    codes "32 hear 0 7 : served 2 | 11 Bcast to 2 | 12 Bcast to 2" ∷
    codes "33 hear 3 4 : stored 3" ∷
    codes "34 hear 0 7 : served 2 | 13 Bcast to 2 | 14 Bcast to 2" ∷
    codes "35 hear 3 5 : stored 4" ∷
    codes "36 hear 3 9 : known" ∷
    codes "37 hear 0 8 : served 2 | 15 Bcast to 2 | 16 Bcast to 2" ∷
    codes "38 hear 1 5 : stored 4" ∷
    codes "39 hear 3 9 : known" ∷
    codes "40 hear 4 2 : known" ∷
    codes "41 done 0 3 : unknown" ∷
    codes "42 hear 4 2 : known" ∷
    codes "43 hear 2 11 : known" ∷
    codes "44 hear 1 5 : known" ∷
    codes "45 hear 4 5 : known" ∷
    codes "46 hear 3 10 : known" ∷
    codes "47 hear 2 12 : stored 4" ∷
    codes "48 hear 3 9 : known" ∷
    codes "49 done 2 4 : unknown" ∷
    codes "50 take 0 : took 1 view 1.0 0,1,2,3,4" ∷
    codes "51 take 3 : took 1 view 1.0 0,1,2,3,4" ∷
    codes "52 hear 2 11 : known" ∷
    codes "53 done 3 1 : sent 1 3" ∷
    codes "54 take 0 : took 2 data 4 1 96" ∷
    codes "55 take 3 : took 2 data 4 1 96" ∷
    codes "56 hear 2 11 : known" ∷
    codes "57 hear 3 2 : known" ∷
    codes "58 hear 2 5 : known" ∷
    codes "59 hear 0 6 : served 2 | 17 Bcast to 3 | 18 Bcast to 3" ∷
    codes "60 take 3 : took 3 data 3 1 -" ∷
    codes "group 1 view 1.0 0,1,2,3,4" ∷
    codes "group 2 data 4 1 96" ∷
    codes "group 3 data 3 1 -" ∷
    codes "group 4 data 0 1 217f38ec54" ∷
    codes "log 0 1 view 1.0 0,1,2,3,4" ∷
    codes "log 0 2 data 4 1 96" ∷
    codes "log 1 1 view 1.0 0,1,2,3,4" ∷
    codes "log 1 2 data 4 1 96" ∷
    codes "log 2 empty" ∷
    codes "log 3 1 view 1.0 0,1,2,3,4" ∷
    codes "log 3 2 data 4 1 96" ∷
    codes "log 3 3 data 3 1 -" ∷
    codes "log 4 1 view 1.0 0,1,2,3,4" ∷
    codes "lawful" ∷
    [])

abbrev pub First2 : Type 0
First2 = play_text_of (rules_with (0 ∷ 1 ∷ []) 0 64 256) (
    on 0 act.Take ∷ on 1 act.Take ∷ on 1 (act.Done 1) ∷ on 0 act.Take ∷ on 1 act.Take ∷ on 1 (act.Done 2) ∷ on 0 (act.Done 3) ∷ on 1 (act.Done 4) ∷
    on 1 act.Take ∷ on 1 act.Take ∷ on 0 act.Take ∷ on 1 act.Take ∷ on 0 (act.Done 5) ∷ on 0 (act.Send (3 ∷ [])) ∷ on 1 (act.Hear 1) ∷
    []) ≡ lines (
    codes "1 take 0 : took 1 view 1.0 0,1" ∷
    codes "2 take 1 : took 1 view 1.0 0,1" ∷
    codes "3 done 1 1 : unknown" ∷
    codes "4 take 0 : empty" ∷
    codes "5 take 1 : empty" ∷
    codes "6 done 1 2 : unknown" ∷
    codes "7 done 0 3 : unknown" ∷
    codes "8 done 1 4 : unknown" ∷
    codes "9 take 1 : empty" ∷
    codes "10 take 1 : empty" ∷
    codes "11 take 0 : empty" ∷
    codes "12 take 1 : empty" ∷
    codes "13 done 0 5 : unknown" ∷
    codes "14 send 0 03 : queued 1 | 1 Bcast to 1" ∷
    codes "15 hear 1 1 : stored 2" ∷
    codes "group 1 view 1.0 0,1" ∷
    codes "group 2 data 0 1 03" ∷
    codes "log 0 1 view 1.0 0,1" ∷
    codes "log 1 1 view 1.0 0,1" ∷
    codes "lawful" ∷
    [])

abbrev pub First3 : Type 0
First3 = play_text_of (rules_with (0 ∷ 1 ∷ 2 ∷ 3 ∷ []) 0 64 256) (
    on 3 act.Take ∷ on 1 act.Take ∷ on 3 act.Take ∷ on 3 act.Take ∷ on 0 act.Take ∷ on 0 (act.Send []) ∷ on 2 (act.Hear 1) ∷ on 2 (act.Done 3) ∷
    on 1 (act.Hear 1) ∷ on 1 (act.Hear 1) ∷ on 0 act.Take ∷ on 3 act.Take ∷ on 1 (act.Send []) ∷ on 2 (act.Hear 1) ∷ on 1 act.Take ∷
    []) ≡ lines (
    codes "1 take 3 : took 1 view 1.0 0,1,2,3" ∷
    codes "2 take 1 : took 1 view 1.0 0,1,2,3" ∷
    codes "3 take 3 : empty" ∷
    codes "4 take 3 : empty" ∷
    codes "5 take 0 : took 1 view 1.0 0,1,2,3" ∷
    codes "6 send 0 - : queued 1 | 1 Bcast to 1,2,3" ∷
    codes "7 hear 2 1 : stored 2" ∷
    codes "8 done 2 3 : unknown" ∷
    codes "9 hear 1 1 : stored 2" ∷
    codes "10 hear 1 1 : known" ∷
    codes "11 take 0 : took 2 data 0 1 -" ∷
    codes "12 take 3 : empty" ∷
    codes "13 send 1 - : queued 1 | 2 Request to 0" ∷
    codes "14 hear 2 1 : known" ∷
    codes "15 take 1 : took 2 data 0 1 -" ∷
    codes "group 1 view 1.0 0,1,2,3" ∷
    codes "group 2 data 0 1 -" ∷
    codes "log 0 1 view 1.0 0,1,2,3" ∷
    codes "log 0 2 data 0 1 -" ∷
    codes "log 1 1 view 1.0 0,1,2,3" ∷
    codes "log 1 2 data 0 1 -" ∷
    codes "log 2 empty" ∷
    codes "log 3 1 view 1.0 0,1,2,3" ∷
    codes "lawful" ∷
    [])

abbrev pub First4 : Type 0
First4 = play_text_of (rules_with (0 ∷ 1 ∷ 2 ∷ 3 ∷ []) 0 64 256) (
    on 0 act.Take ∷ on 3 (act.Send (19 ∷ 174 ∷ [])) ∷ on 0 (act.Hear 1) ∷ on 0 (act.Hear 1) ∷ on 0 (act.Hear 1) ∷ on 0 (act.Send (183 ∷ 153 ∷ [])) ∷
    on 3 (act.Send (55 ∷ [])) ∷ on 1 (act.Send (145 ∷ [])) ∷ on 0 (act.Done 1) ∷ on 1 (act.Done 1) ∷ on 0 (act.Send []) ∷ on 2 (act.Hear 3) ∷
    on 2 (act.Done 2) ∷ on 1 (act.Hear 2) ∷ on 1 (act.Done 1) ∷
    []) ≡ lines (
    codes "1 take 0 : took 1 view 1.0 0,1,2,3" ∷
    codes "2 send 3 13ae : queued 1 | 1 Request to 0" ∷
    codes "3 hear 0 1 : numbered 2 | 2 Bcast to 1,2,3" ∷
    codes "4 hear 0 1 : again" ∷
    codes "5 hear 0 1 : again" ∷
    codes "6 send 0 b799 : queued 1 | 3 Bcast to 1,2,3" ∷
    codes "7 send 3 37 : queued 2" ∷
    codes "8 send 1 91 : queued 1 | 4 Request to 0" ∷
    codes "9 done 0 1 : sent 1 3" ∷
    codes "10 done 1 1 : pending 1" ∷
    codes "11 send 0 - : queued 2 | 5 Bcast to 1,2,3" ∷
    codes "12 hear 2 3 : gap 2 | 6 Nack to 0" ∷
    codes "13 done 2 2 : unknown" ∷
    codes "14 hear 1 2 : stored 2" ∷
    codes "15 done 1 1 : pending 1" ∷
    codes "group 1 view 1.0 0,1,2,3" ∷
    codes "group 2 data 3 1 13ae" ∷
    codes "group 3 data 0 1 b799" ∷
    codes "group 4 data 0 2 -" ∷
    codes "log 0 1 view 1.0 0,1,2,3" ∷
    codes "log 1 empty" ∷
    codes "log 2 empty" ∷
    codes "log 3 empty" ∷
    codes "lawful" ∷
    [])

abbrev pub First5 : Type 0
First5 = play_text_of (rules_with (0 ∷ 1 ∷ 2 ∷ 3 ∷ []) 0 64 256) (
    on 0 act.Take ∷ on 3 act.Take ∷ on 3 (act.Send (37 ∷ 122 ∷ 253 ∷ 99 ∷ 125 ∷ [])) ∷ on 1 act.Take ∷ on 0 (act.Hear 1) ∷ on 1 (act.Hear 2) ∷
    on 2 (act.Hear 2) ∷ on 0 (act.Done 4) ∷ on 3 (act.Hear 2) ∷ on 0 (act.Send []) ∷ on 0 (act.Hear 1) ∷ on 2 (act.Hear 2) ∷ on 2 act.Take ∷
    on 2 (act.Hear 3) ∷ on 1 (act.Hear 2) ∷
    []) ≡ lines (
    codes "1 take 0 : took 1 view 1.0 0,1,2,3" ∷
    codes "2 take 3 : took 1 view 1.0 0,1,2,3" ∷
    codes "3 send 3 257afd637d : queued 1 | 1 Request to 0" ∷
    codes "4 take 1 : took 1 view 1.0 0,1,2,3" ∷
    codes "5 hear 0 1 : numbered 2 | 2 Bcast to 1,2,3" ∷
    codes "6 hear 1 2 : stored 2" ∷
    codes "7 hear 2 2 : stored 2" ∷
    codes "8 done 0 4 : unknown" ∷
    codes "9 hear 3 2 : stored 2" ∷
    codes "10 send 0 - : queued 1 | 3 Bcast to 1,2,3" ∷
    codes "11 hear 0 1 : again" ∷
    codes "12 hear 2 2 : known" ∷
    codes "13 take 2 : took 1 view 1.0 0,1,2,3" ∷
    codes "14 hear 2 3 : stored 3" ∷
    codes "15 hear 1 2 : known" ∷
    codes "group 1 view 1.0 0,1,2,3" ∷
    codes "group 2 data 3 1 257afd637d" ∷
    codes "group 3 data 0 1 -" ∷
    codes "log 0 1 view 1.0 0,1,2,3" ∷
    codes "log 1 1 view 1.0 0,1,2,3" ∷
    codes "log 2 1 view 1.0 0,1,2,3" ∷
    codes "log 3 1 view 1.0 0,1,2,3" ∷
    codes "lawful" ∷
    [])

abbrev pub First6 : Type 0
First6 = play_text_of (rules_with (0 ∷ 1 ∷ 2 ∷ 3 ∷ 4 ∷ []) 0 64 256) (
    on 4 act.Take ∷ on 3 act.Take ∷ on 4 (act.Done 2) ∷ on 4 (act.Send []) ∷ on 3 act.Take ∷ on 0 (act.Hear 1) ∷ on 3 (act.Hear 2) ∷ on 4 (act.Hear 2)
    ∷
    on 1 (act.Send (226 ∷ [])) ∷ on 2 (act.Done 3) ∷ on 3 (act.Hear 2) ∷ on 1 act.Take ∷ on 0 act.Take ∷ on 1 (act.Hear 2) ∷ on 0 (act.Hear 1) ∷
    on 1 (act.Hear 2) ∷ on 2 (act.Hear 2) ∷ on 0 (act.Hear 3) ∷ on 2 act.Take ∷ on 2 (act.Hear 4) ∷ on 1 (act.Hear 4) ∷ on 1 (act.Hear 2) ∷
    on 2 (act.Hear 4) ∷ on 1 (act.Hear 4) ∷ on 1 (act.Hear 4) ∷ on 4 (act.Hear 4) ∷ on 4 (act.Hear 4) ∷ on 2 (act.Hear 4) ∷ on 3 (act.Hear 4) ∷
    on 3 (act.Send (130 ∷ 158 ∷ 93 ∷ 71 ∷ 112 ∷ 228 ∷ 13 ∷ 229 ∷ 17 ∷ 0 ∷ 127 ∷ 13 ∷ 244 ∷ 115 ∷ 112 ∷ 175 ∷ 144 ∷ 143 ∷ 159 ∷ 236 ∷ 74 ∷ 156 ∷ 230 ∷
    43 ∷ 126 ∷ 234 ∷ 163 ∷ 30 ∷ 132 ∷ 0 ∷ 3 ∷ 144 ∷ 136 ∷ 109 ∷ 82 ∷ 147 ∷ 121 ∷ 254 ∷ 147 ∷ 244 ∷ [])) ∷
    []) ≡ lines (
    codes "1 take 4 : took 1 view 1.0 0,1,2,3,4" ∷
    codes "2 take 3 : took 1 view 1.0 0,1,2,3,4" ∷
    codes "3 done 4 2 : unknown" ∷
    codes "4 send 4 - : queued 1 | 1 Request to 0" ∷
    codes "5 take 3 : empty" ∷
    codes "6 hear 0 1 : numbered 2 | 2 Bcast to 1,2,3,4" ∷
    codes "7 hear 3 2 : stored 2" ∷
    codes "8 hear 4 2 : stored 2" ∷
    codes "9 send 1 e2 : queued 1 | 3 Request to 0" ∷
    codes "10 done 2 3 : unknown" ∷
    codes "11 hear 3 2 : known" ∷
    codes "12 take 1 : took 1 view 1.0 0,1,2,3,4" ∷
    codes "13 take 0 : took 1 view 1.0 0,1,2,3,4" ∷
    codes "14 hear 1 2 : stored 2" ∷
    codes "15 hear 0 1 : again" ∷
    codes "16 hear 1 2 : known" ∷
    codes "17 hear 2 2 : stored 2" ∷
    codes "18 hear 0 3 : numbered 3 | 4 Bcast to 1,2,3,4" ∷
    codes "19 take 2 : took 1 view 1.0 0,1,2,3,4" ∷
    codes "20 hear 2 4 : stored 3" ∷
    codes "21 hear 1 4 : stored 3" ∷
    codes "22 hear 1 2 : known" ∷
    codes "23 hear 2 4 : known" ∷
    codes "24 hear 1 4 : known" ∷
    codes "25 hear 1 4 : known" ∷
    codes "26 hear 4 4 : stored 3" ∷
    codes "27 hear 4 4 : known" ∷
    codes "28 hear 2 4 : known" ∷
    codes "29 hear 3 4 : stored 3" ∷
    codes "30 send 3 829e5d4770e40de511007f0df47370af908f9fec4a9ce62b7eeaa31e84000390886d529379fe93f4 : queued 1 | 5 Request to 0" ∷
    codes "group 1 view 1.0 0,1,2,3,4" ∷
    codes "group 2 data 4 1 -" ∷
    codes "group 3 data 1 1 e2" ∷
    codes "log 0 1 view 1.0 0,1,2,3,4" ∷
    codes "log 1 1 view 1.0 0,1,2,3,4" ∷
    codes "log 2 1 view 1.0 0,1,2,3,4" ∷
    codes "log 3 1 view 1.0 0,1,2,3,4" ∷
    codes "log 4 1 view 1.0 0,1,2,3,4" ∷
    codes "lawful" ∷
    [])

abbrev pub First7 : Type 0
First7 = play_text_of (rules_with (0 ∷ 1 ∷ 2 ∷ 3 ∷ []) 0 64 256) (
    on 3 (act.Send (106 ∷ [])) ∷ on 0 (act.Hear 1) ∷ on 3 (act.Hear 2) ∷ on 1 (act.Hear 2) ∷ on 0 act.Take ∷ on 1 act.Take ∷ on 3 act.Take ∷
    on 0 act.Take ∷ on 2 (act.Hear 2) ∷ on 2 act.Take ∷ on 0 act.Take ∷ on 0 (act.Send (88 ∷ 67 ∷ [])) ∷ on 2 (act.Hear 3) ∷ on 3 (act.Hear 3) ∷
    on 3 (act.Done 1) ∷ on 1 (act.Hear 3) ∷ on 3 (act.Done 5) ∷ on 0 act.Take ∷ on 0 act.Take ∷ on 2 act.Take ∷ on 1 act.Take ∷ on 1 act.Take ∷
    on 1 act.Take ∷ on 2 act.Take ∷ on 3 act.Take ∷ on 3 (act.Done 5) ∷ on 2 (act.Send (240 ∷ 105 ∷ 66 ∷ 158 ∷ 87 ∷ [])) ∷ on 0 (act.Done 1) ∷
    on 3 act.Take ∷ on 0 act.Take ∷
    []) ≡ lines (
    codes "1 send 3 6a : queued 1 | 1 Request to 0" ∷
    codes "2 hear 0 1 : numbered 2 | 2 Bcast to 1,2,3" ∷
    codes "3 hear 3 2 : stored 2" ∷
    codes "4 hear 1 2 : stored 2" ∷
    codes "5 take 0 : took 1 view 1.0 0,1,2,3" ∷
    codes "6 take 1 : took 1 view 1.0 0,1,2,3" ∷
    codes "7 take 3 : took 1 view 1.0 0,1,2,3" ∷
    codes "8 take 0 : took 2 data 3 1 6a" ∷
    codes "9 hear 2 2 : stored 2" ∷
    codes "10 take 2 : took 1 view 1.0 0,1,2,3" ∷
    codes "11 take 0 : empty" ∷
    codes "12 send 0 5843 : queued 1 | 3 Bcast to 1,2,3" ∷
    codes "13 hear 2 3 : stored 3" ∷
    codes "14 hear 3 3 : stored 3" ∷
    codes "15 done 3 1 : sent 1 2" ∷
    codes "16 hear 1 3 : stored 3" ∷
    codes "17 done 3 5 : unknown" ∷
    codes "18 take 0 : took 3 data 0 1 5843" ∷
    codes "19 take 0 : empty" ∷
    codes "20 take 2 : took 2 data 3 1 6a" ∷
    codes "21 take 1 : took 2 data 3 1 6a" ∷
    codes "22 take 1 : took 3 data 0 1 5843" ∷
    codes "23 take 1 : empty" ∷
    codes "24 take 2 : took 3 data 0 1 5843" ∷
    codes "25 take 3 : took 2 data 3 1 6a" ∷
    codes "26 done 3 5 : unknown" ∷
    codes "27 send 2 f069429e57 : queued 1 | 4 Request to 0" ∷
    codes "28 done 0 1 : sent 1 3" ∷
    codes "29 take 3 : took 3 data 0 1 5843" ∷
    codes "30 take 0 : empty" ∷
    codes "group 1 view 1.0 0,1,2,3" ∷
    codes "group 2 data 3 1 6a" ∷
    codes "group 3 data 0 1 5843" ∷
    codes "log 0 1 view 1.0 0,1,2,3" ∷
    codes "log 0 2 data 3 1 6a" ∷
    codes "log 0 3 data 0 1 5843" ∷
    codes "log 1 1 view 1.0 0,1,2,3" ∷
    codes "log 1 2 data 3 1 6a" ∷
    codes "log 1 3 data 0 1 5843" ∷
    codes "log 2 1 view 1.0 0,1,2,3" ∷
    codes "log 2 2 data 3 1 6a" ∷
    codes "log 2 3 data 0 1 5843" ∷
    codes "log 3 1 view 1.0 0,1,2,3" ∷
    codes "log 3 2 data 3 1 6a" ∷
    codes "log 3 3 data 0 1 5843" ∷
    codes "lawful" ∷
    [])

abbrev pub First8 : Type 0
First8 = play_text_of (rules_with (0 ∷ 1 ∷ 2 ∷ 3 ∷ []) 0 64 256) (
    on 1 act.Take ∷ on 2 (act.Send []) ∷ on 0 (act.Send (172 ∷ 243 ∷ [])) ∷ on 0 (act.Hear 1) ∷ on 1 act.Take ∷ on 2 (act.Hear 2) ∷ on 0 act.Take ∷
    on 3 (act.Hear 2) ∷ on 1 (act.Hear 3) ∷ on 1 (act.Send []) ∷ on 2 (act.Hear 2) ∷ on 1 (act.Hear 3) ∷ on 2 act.Take ∷ on 0 (act.Hear 4) ∷
    on 0 (act.Hear 4) ∷ on 2 (act.Hear 3) ∷ on 2 (act.Done 1) ∷ on 0 (act.Hear 4) ∷ on 1 (act.Hear 11) ∷ on 1 (act.Hear 8) ∷ on 0 (act.Hear 4) ∷
    on 3 act.Take ∷ on 0 (act.Hear 5) ∷ on 1 (act.Send (154 ∷ 128 ∷ 59 ∷ 49 ∷ 204 ∷ [])) ∷ on 0 (act.Hear 6) ∷
    on 2 (act.Send (136 ∷ 16 ∷ 8 ∷ 10 ∷ 99 ∷ [])) ∷ on 3 (act.Hear 2) ∷ on 0 (act.Hear 6) ∷ on 2 (act.Hear 15) ∷ on 1 act.Take ∷
    []) ≡ lines (
    codes "1 take 1 : took 1 view 1.0 0,1,2,3" ∷
    codes "2 send 2 - : queued 1 | 1 Request to 0" ∷
    codes "3 send 0 acf3 : queued 1 | 2 Bcast to 1,2,3" ∷
    codes "4 hear 0 1 : numbered 3 | 3 Bcast to 1,2,3" ∷
    codes "5 take 1 : empty" ∷
    codes "6 hear 2 2 : stored 2" ∷
    codes "7 take 0 : took 1 view 1.0 0,1,2,3" ∷
    codes "8 hear 3 2 : stored 2" ∷
    codes "9 hear 1 3 : gap 2 | 4 Nack to 0" ∷
    codes "10 send 1 - : queued 1 | 5 Request to 0" ∷
    codes "11 hear 2 2 : known" ∷
    codes "12 hear 1 3 : gap 2 | 6 Nack to 0" ∷
    codes "13 take 2 : took 1 view 1.0 0,1,2,3" ∷
    codes "14 hear 0 4 : served 2 | 7 Bcast to 1 | 8 Bcast to 1" ∷
    codes "15 hear 0 4 : served 2 | 9 Bcast to 1 | 10 Bcast to 1" ∷
    codes "16 hear 2 3 : stored 3" ∷
    codes "17 done 2 1 : sent 1 3" ∷
    codes "18 hear 0 4 : served 2 | 11 Bcast to 1 | 12 Bcast to 1" ∷
    codes "19 hear 1 11 : stored 2" ∷
    codes "20 hear 1 8 : stored 3" ∷
    codes "21 hear 0 4 : served 2 | 13 Bcast to 1 | 14 Bcast to 1" ∷
    codes "22 take 3 : took 1 view 1.0 0,1,2,3" ∷
    codes "23 hear 0 5 : numbered 4 | 15 Bcast to 1,2,3" ∷
    codes "24 send 1 9a803b31cc : queued 2" ∷
    codes "25 hear 0 6 : served 3 | 16 Bcast to 1 | 17 Bcast to 1 | 18 Bcast to 1" ∷
    codes "26 send 2 8810080a63 : queued 2 | 19 Request to 0" ∷
    codes "27 hear 3 2 : known" ∷
    codes "28 hear 0 6 : served 3 | 20 Bcast to 1 | 21 Bcast to 1 | 22 Bcast to 1" ∷
    codes "29 hear 2 15 : stored 4" ∷
    codes "30 take 1 : took 2 data 0 1 acf3" ∷
    codes "group 1 view 1.0 0,1,2,3" ∷
    codes "group 2 data 0 1 acf3" ∷
    codes "group 3 data 2 1 -" ∷
    codes "group 4 data 1 1 -" ∷
    codes "log 0 1 view 1.0 0,1,2,3" ∷
    codes "log 1 1 view 1.0 0,1,2,3" ∷
    codes "log 1 2 data 0 1 acf3" ∷
    codes "log 2 1 view 1.0 0,1,2,3" ∷
    codes "log 3 1 view 1.0 0,1,2,3" ∷
    codes "lawful" ∷
    [])

abbrev pub First9 : Type 0
First9 = play_text_of (rules_with (0 ∷ 1 ∷ 2 ∷ []) 0 64 256) (
    on 0 act.Take ∷ on 0 act.Take ∷ on 1 (act.Done 2) ∷ on 2 act.Take ∷ on 1 (act.Done 1) ∷ on 0 act.Take ∷ on 2 act.Take ∷ on 2 (act.Done 4) ∷
    on 1 act.Take ∷ on 2 act.Take ∷ on 1 act.Take ∷ on 1 (act.Done 5) ∷ on 2 act.Take ∷ on 1 (act.Send (197 ∷ [])) ∷ on 2 act.Take ∷ on 0 (act.Hear 1)
    ∷
    on 2 (act.Hear 2) ∷ on 1 (act.Hear 2) ∷ on 2 (act.Hear 2) ∷ on 1 (act.Hear 2) ∷ on 0 (act.Hear 1) ∷ on 1 (act.Hear 2) ∷ on 1 (act.Hear 2) ∷
    on 0 act.Take ∷ on 0 act.Take ∷ on 2 (act.Send (95 ∷ 68 ∷ 67 ∷ 254 ∷ 83 ∷ [])) ∷ on 1 (act.Hear 2) ∷ on 0 (act.Hear 3) ∷ on 1 (act.Hear 4) ∷
    on 0 (act.Hear 3) ∷ on 2 (act.Hear 4) ∷ on 0 (act.Hear 3) ∷ on 2 (act.Hear 4) ∷ on 1 (act.Hear 4) ∷ on 2 act.Take ∷ on 1 act.Take ∷ on 1 act.Take
    ∷
    on 1 (act.Hear 2) ∷ on 2 act.Take ∷ on 1 (act.Hear 4) ∷ on 0 (act.Send (131 ∷ 33 ∷ 168 ∷ 171 ∷ 130 ∷ [])) ∷ on 0 act.Take ∷ on 0 (act.Hear 1) ∷
    on 1 (act.Done 1) ∷ on 1 (act.Hear 5) ∷ on 2 (act.Hear 5) ∷ on 2 (act.Hear 5) ∷ on 0 (act.Hear 3) ∷ on 1 (act.Hear 5) ∷ on 2 (act.Hear 2) ∷
    on 1 (act.Hear 2) ∷ on 1 (act.Done 2) ∷ on 1 act.Take ∷ on 0 (act.Send (193 ∷ 190 ∷ 62 ∷ 132 ∷ 220 ∷ [])) ∷ on 1 (act.Hear 6) ∷ on 0 (act.Hear 1)
    ∷
    on 1 (act.Hear 2) ∷ on 2 (act.Hear 6) ∷ on 2 (act.Hear 4) ∷ on 2 (act.Hear 5) ∷
    []) ≡ lines (
    codes "1 take 0 : took 1 view 1.0 0,1,2" ∷
    codes "2 take 0 : empty" ∷
    codes "3 done 1 2 : unknown" ∷
    codes "4 take 2 : took 1 view 1.0 0,1,2" ∷
    codes "5 done 1 1 : unknown" ∷
    codes "6 take 0 : empty" ∷
    codes "7 take 2 : empty" ∷
    codes "8 done 2 4 : unknown" ∷
    codes "9 take 1 : took 1 view 1.0 0,1,2" ∷
    codes "10 take 2 : empty" ∷
    codes "11 take 1 : empty" ∷
    codes "12 done 1 5 : unknown" ∷
    codes "13 take 2 : empty" ∷
    codes "14 send 1 c5 : queued 1 | 1 Request to 0" ∷
    codes "15 take 2 : empty" ∷
    codes "16 hear 0 1 : numbered 2 | 2 Bcast to 1,2" ∷
    codes "17 hear 2 2 : stored 2" ∷
    codes "18 hear 1 2 : stored 2" ∷
    codes "19 hear 2 2 : known" ∷
    codes "20 hear 1 2 : known" ∷
    codes "21 hear 0 1 : again" ∷
    codes "22 hear 1 2 : known" ∷
    codes "23 hear 1 2 : known" ∷
    codes "24 take 0 : took 2 data 1 1 c5" ∷
    codes "25 take 0 : empty" ∷
    codes "26 send 2 5f4443fe53 : queued 1 | 3 Request to 0" ∷
    codes "27 hear 1 2 : known" ∷
    codes "28 hear 0 3 : numbered 3 | 4 Bcast to 1,2" ∷
    codes "29 hear 1 4 : stored 3" ∷
    codes "30 hear 0 3 : again" ∷
    codes "31 hear 2 4 : stored 3" ∷
    codes "32 hear 0 3 : again" ∷
    codes "33 hear 2 4 : known" ∷
    codes "34 hear 1 4 : known" ∷
    codes "35 take 2 : took 2 data 1 1 c5" ∷
    codes "36 take 1 : took 2 data 1 1 c5" ∷
    codes "37 take 1 : took 3 data 2 1 5f4443fe53" ∷
    codes "38 hear 1 2 : known" ∷
    codes "39 take 2 : took 3 data 2 1 5f4443fe53" ∷
    codes "40 hear 1 4 : known" ∷
    codes "41 send 0 8321a8ab82 : queued 1 | 5 Bcast to 1,2" ∷
    codes "42 take 0 : took 3 data 2 1 5f4443fe53" ∷
    codes "43 hear 0 1 : again" ∷
    codes "44 done 1 1 : sent 1 2" ∷
    codes "45 hear 1 5 : stored 4" ∷
    codes "46 hear 2 5 : stored 4" ∷
    codes "47 hear 2 5 : known" ∷
    codes "48 hear 0 3 : again" ∷
    codes "49 hear 1 5 : known" ∷
    codes "50 hear 2 2 : known" ∷
    codes "51 hear 1 2 : known" ∷
    codes "52 done 1 2 : unknown" ∷
    codes "53 take 1 : took 4 data 0 1 8321a8ab82" ∷
    codes "54 send 0 c1be3e84dc : queued 2 | 6 Bcast to 1,2" ∷
    codes "55 hear 1 6 : stored 5" ∷
    codes "56 hear 0 1 : again" ∷
    codes "57 hear 1 2 : known" ∷
    codes "58 hear 2 6 : stored 5" ∷
    codes "59 hear 2 4 : known" ∷
    codes "60 hear 2 5 : known" ∷
    codes "group 1 view 1.0 0,1,2" ∷
    codes "group 2 data 1 1 c5" ∷
    codes "group 3 data 2 1 5f4443fe53" ∷
    codes "group 4 data 0 1 8321a8ab82" ∷
    codes "group 5 data 0 2 c1be3e84dc" ∷
    codes "log 0 1 view 1.0 0,1,2" ∷
    codes "log 0 2 data 1 1 c5" ∷
    codes "log 0 3 data 2 1 5f4443fe53" ∷
    codes "log 1 1 view 1.0 0,1,2" ∷
    codes "log 1 2 data 1 1 c5" ∷
    codes "log 1 3 data 2 1 5f4443fe53" ∷
    codes "log 1 4 data 0 1 8321a8ab82" ∷
    codes "log 2 1 view 1.0 0,1,2" ∷
    codes "log 2 2 data 1 1 c5" ∷
    codes "log 2 3 data 2 1 5f4443fe53" ∷
    codes "lawful" ∷
    [])
