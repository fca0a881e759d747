-- Scripts and their texts. Written by tools/rows.py from cases/scenarios_resets.
use Rattle.std.specs.Prelude.{◌≡◌, [], ◌∷◌, ◌++◌, codes}
use Rattle.am_group.specs.declared.event.Act.TheVariants as act
use Rattle.am_group_defs.specs.Play.{play_text_of}
use Rattle.am_computed_cases.specs.Scripts.{rules_with, on, lines}

abbrev pub Resets1 : Type 0
Resets1 = play_text_of (rules_with (0 ∷ 1 ∷ 2 ∷ 3 ∷ []) 0 3 4) (
    on 3 act.Take ∷ on 3 act.Tick ∷ on 0 (act.Hear 1) ∷ on 1 act.Take ∷ on 0 (act.Hear 1) ∷ on 0 (act.Hear 1) ∷ on 2 act.Take ∷ on 3 act.Take ∷
    on 1 (act.Hear 3) ∷ on 3 act.Take ∷ on 0 act.Tick ∷ on 0 (act.Reset 1 0) ∷ on 3 (act.Hear 2) ∷ on 3 (act.Hear 3) ∷ on 2 (act.Hear 2) ∷
    []) ≡ lines (
    codes "1 take 3 : took 1 view 1.0 0,1,2,3" ∷
    codes "2 tick 3 : ticked | 1 Ack to 0" ∷
    codes "3 hear 0 1 : noted" ∷
    codes "4 take 1 : took 1 view 1.0 0,1,2,3" ∷
    codes "5 hear 0 1 : noted" ∷
    codes "6 hear 0 1 : noted" ∷
    codes "7 take 2 : took 1 view 1.0 0,1,2,3" ∷
    codes "8 take 3 : empty" ∷
    codes "9 hear 1 3 : no-packet" ∷
    codes "10 take 3 : empty" ∷
    codes "11 tick 0 : ticked | 2 Accept to 1,2,3" ∷
    codes "12 reset 0 1 : waiting 1,2,3 | 3 Invite to 1,2,3" ∷
    codes "13 hear 3 2 : known | 4 Ack to 0" ∷
    codes "14 hear 3 3 : voted | 5 Vote to 0" ∷
    codes "15 hear 2 2 : known | 6 Ack to 0" ∷
    codes "group 1 view 1.0 0,1,2,3" ∷
    codes "log 0 empty" ∷
    codes "log 1 1 view 1.0 0,1,2,3" ∷
    codes "log 2 1 view 1.0 0,1,2,3" ∷
    codes "log 3 1 view 1.0 0,1,2,3" ∷
    codes "lawful" ∷
    [])

abbrev pub Resets10 : Type 0
Resets10 = play_text_of (rules_with (0 ∷ 1 ∷ 2 ∷ 3 ∷ []) 2 3 0) (
    on 1 act.Take ∷ on 2 act.Tick ∷ on 0 (act.Hear 1) ∷ on 1 (act.Reset 1 2) ∷ on 3 (act.Hear 2) ∷ on 0 (act.Hear 2) ∷ on 2 (act.Send []) ∷
    on 2 (act.Hear 2) ∷ on 0 act.Take ∷ on 3 act.Take ∷ on 3 (act.Reset 1 2) ∷ on 1 (act.Hear 3) ∷ on 1 act.Tick ∷ on 0 (act.Hear 7) ∷ on 0 act.Take ∷
    on 1 (act.Hear 4) ∷ on 3 (act.Hear 9) ∷ on 1 (act.Hear 6) ∷ on 2 (act.Hear 7) ∷ on 3 (act.Hear 10) ∷ on 2 (act.Hear 8) ∷ on 0 (act.Hear 8) ∷
    on 1 (act.Hear 7) ∷ on 0 (act.Hear 10) ∷ on 1 (act.Hear 12) ∷ on 3 (act.Hear 11) ∷ on 1 act.Take ∷ on 2 (act.Hear 10) ∷ on 1 (act.Hear 13) ∷
    on 3 (act.GiveUp 1) ∷
    []) ≡ lines (
    codes "1 take 1 : took 1 view 1.0 0,1,2,3" ∷
    codes "2 tick 2 : ticked | 1 Ack to 0" ∷
    codes "3 hear 0 1 : noted" ∷
    codes "4 reset 1 1 : waiting 0,2,3 | 2 Invite to 0,2,3" ∷
    codes "5 hear 3 2 : voted | 3 Vote to 1" ∷
    codes "6 hear 0 2 : voted | 4 Vote to 1" ∷
    codes "7 send 2 - : queued 1 | 5 Request to 0" ∷
    codes "8 hear 2 2 : voted | 6 Vote to 1" ∷
    codes "9 take 0 : took 1 view 1.0 0,1,2,3" ∷
    codes "10 take 3 : took 1 view 1.0 0,1,2,3" ∷
    codes "11 reset 3 1 : waiting 0,1,2 | 7 Invite to 0,1,2" ∷
    codes "12 hear 1 3 : waiting 0,2" ∷
    codes "13 tick 1 : ticked | 8 Invite to 0,2" ∷
    codes "14 hear 0 7 : voted | 9 Vote to 3" ∷
    codes "15 take 0 : empty" ∷
    codes "16 hear 1 4 : waiting 2" ∷
    codes "17 hear 3 9 : waiting 1,2" ∷
    codes "18 hear 1 6 : decided 2 0,1,2,3 | 10 Result to 0,2,3" ∷
    codes "19 hear 2 7 : voted | 11 Vote to 3" ∷
    codes "20 hear 3 10 : elsewhere" ∷
    codes "21 hear 2 8 : newer 3.3 | 12 Vote to 1" ∷
    codes "22 hear 0 8 : newer 3.3 | 13 Vote to 1" ∷
    codes "23 hear 1 7 : voted | 14 Vote to 3" ∷
    codes "24 hear 0 10 : elsewhere" ∷
    codes "25 hear 1 12 : elsewhere" ∷
    codes "26 hear 3 11 : waiting 1" ∷
    codes "27 take 1 : empty" ∷
    codes "28 hear 2 10 : elsewhere" ∷
    codes "29 hear 1 13 : elsewhere" ∷
    codes "30 giveup 3 1 : not-stopped" ∷
    codes "group 1 view 1.0 0,1,2,3" ∷
    codes "log 0 1 view 1.0 0,1,2,3" ∷
    codes "log 1 1 view 1.0 0,1,2,3" ∷
    codes "log 2 empty" ∷
    codes "log 3 1 view 1.0 0,1,2,3" ∷
    codes "lawful" ∷
    [])

abbrev pub Resets2 : Type 0
Resets2 = play_text_of (rules_with (0 ∷ 1 ∷ 2 ∷ 3 ∷ 4 ∷ 5 ∷ []) 0 1 4) (
    on 0 (act.Done 4) ∷ on 3 act.Tick ∷ on 1 (act.Reset 1 0) ∷ on 5 (act.Hear 2) ∷ on 0 act.Tick ∷ on 1 (act.Hear 4) ∷
    on 5 (act.Send (142 ∷ 209 ∷ 115 ∷ 233 ∷ 55 ∷ [])) ∷ on 0 (act.Hear 2) ∷ on 1 (act.Hear 3) ∷ on 2 (act.Hear 2) ∷ on 4 (act.Hear 4) ∷
    on 2 (act.Hear 4) ∷ on 3 act.Take ∷ on 4 (act.Hear 4) ∷ on 4 (act.Hear 2) ∷
    []) ≡ lines (
    codes "1 done 0 4 : unknown" ∷
    codes "2 tick 3 : ticked | 1 Ack to 0" ∷
    codes "3 reset 1 1 : waiting 0,2,3,4,5 | 2 Invite to 0,2,3,4,5" ∷
    codes "4 hear 5 2 : voted | 3 Vote to 1" ∷
    codes "5 tick 0 : ticked | 4 Accept to 1,2,3,4,5" ∷
    codes "6 hear 1 4 : elsewhere" ∷
    codes "7 send 5 8ed173e937 : queued 1" ∷
    codes "8 hear 0 2 : voted | 5 Vote to 1" ∷
    codes "9 hear 1 3 : waiting 0,2,3,4" ∷
    codes "10 hear 2 2 : voted | 6 Vote to 1" ∷
    codes "11 hear 4 4 : known | 7 Ack to 0" ∷
    codes "12 hear 2 4 : elsewhere" ∷
    codes "13 take 3 : took 1 view 1.0 0,1,2,3,4,5" ∷
    codes "14 hear 4 4 : known | 8 Ack to 0" ∷
    codes "15 hear 4 2 : voted | 9 Vote to 1" ∷
    codes "group 1 view 1.0 0,1,2,3,4,5" ∷
    codes "log 0 empty" ∷
    codes "log 1 empty" ∷
    codes "log 2 empty" ∷
    codes "log 3 1 view 1.0 0,1,2,3,4,5" ∷
    codes "log 4 empty" ∷
    codes "log 5 empty" ∷
    codes "lawful" ∷
    [])

abbrev pub Resets3 : Type 0
Resets3 = play_text_of (rules_with (0 ∷ 1 ∷ 2 ∷ 3 ∷ 4 ∷ 5 ∷ []) 3 3 256) (
    on 3 (act.Reset 1 3) ∷ on 0 (act.Hear 1) ∷ on 2 (act.Hear 1) ∷ on 3 (act.Hear 3) ∷ on 2 (act.Hear 1) ∷ on 5 (act.Done 4) ∷ on 2 (act.Hear 1) ∷
    on 4 (act.Hear 1) ∷ on 1 (act.Hear 1) ∷ on 5 (act.Hear 1) ∷ on 3 (act.GiveUp 4) ∷ on 5 (act.Hear 1) ∷ on 1 (act.Hear 1) ∷ on 2 act.Take ∷
    on 1 (act.Hear 1) ∷
    []) ≡ lines (
    codes "1 reset 3 1 : waiting 0,1,2,4,5 | 1 Invite to 0,1,2,4,5" ∷
    codes "2 hear 0 1 : voted | 2 Vote to 3" ∷
    codes "3 hear 2 1 : voted | 3 Vote to 3" ∷
    codes "4 hear 3 3 : waiting 0,1,4,5" ∷
    codes "5 hear 2 1 : voted | 4 Vote to 3" ∷
    codes "6 done 5 4 : unknown" ∷
    codes "7 hear 2 1 : voted | 5 Vote to 3" ∷
    codes "8 hear 4 1 : voted | 6 Vote to 3" ∷
    codes "9 hear 1 1 : voted | 7 Vote to 3" ∷
    codes "10 hear 5 1 : voted | 8 Vote to 3" ∷
    codes "11 giveup 3 4 : not-stopped" ∷
    codes "12 hear 5 1 : voted | 9 Vote to 3" ∷
    codes "13 hear 1 1 : voted | 10 Vote to 3" ∷
    codes "14 take 2 : took 1 view 1.0 0,1,2,3,4,5" ∷
    codes "15 hear 1 1 : voted | 11 Vote to 3" ∷
    codes "group 1 view 1.0 0,1,2,3,4,5" ∷
    codes "log 0 empty" ∷
    codes "log 1 empty" ∷
    codes "log 2 1 view 1.0 0,1,2,3,4,5" ∷
    codes "log 3 empty" ∷
    codes "log 4 empty" ∷
    codes "log 5 empty" ∷
    codes "lawful" ∷
    [])

abbrev pub Resets4 : Type 0
Resets4 = play_text_of (rules_with (0 ∷ 1 ∷ 2 ∷ 3 ∷ 4 ∷ 5 ∷ []) 3 5 0) (
    on 4 act.Tick ∷ on 4 act.Tick ∷ on 1 (act.Reset 3 3) ∷ on 4 (act.Hear 3) ∷ on 0 (act.Hear 1) ∷ on 1 (act.Hear 4) ∷ on 5 (act.Hear 3) ∷
    on 0 (act.Hear 2) ∷ on 3 (act.Hear 3) ∷ on 0 (act.Hear 3) ∷ on 0 (act.Send (108 ∷ 76 ∷ [])) ∷ on 4 (act.Reset 1 3) ∷ on 5 (act.Reset 2 3) ∷
    on 2 (act.Hear 3) ∷ on 4 (act.Hear 3) ∷
    []) ≡ lines (
    codes "1 tick 4 : ticked | 1 Ack to 0" ∷
    codes "2 tick 4 : ticked | 2 Ack to 0" ∷
    codes "3 reset 1 3 : waiting 0,2,3,4,5 | 3 Invite to 0,2,3,4,5" ∷
    codes "4 hear 4 3 : voted | 4 Vote to 1" ∷
    codes "5 hear 0 1 : noted" ∷
    codes "6 hear 1 4 : waiting 0,2,3,5" ∷
    codes "7 hear 5 3 : voted | 5 Vote to 1" ∷
    codes "8 hear 0 2 : noted" ∷
    codes "9 hear 3 3 : voted | 6 Vote to 1" ∷
    codes "10 hear 0 3 : voted | 7 Vote to 1" ∷
    codes "11 send 0 6c4c : queued 1" ∷
    codes "12 reset 4 1 : waiting 0,1,2,3,5 | 8 Invite to 0,1,2,3,5" ∷
    codes "13 reset 5 2 : waiting 0,1,2,3,4 | 9 Invite to 0,1,2,3,4" ∷
    codes "14 hear 2 3 : voted | 10 Vote to 1" ∷
    codes "15 hear 4 3 : newer 3.4 | 11 Vote to 1" ∷
    codes "group 1 view 1.0 0,1,2,3,4,5" ∷
    codes "log 0 empty" ∷
    codes "log 1 empty" ∷
    codes "log 2 empty" ∷
    codes "log 3 empty" ∷
    codes "log 4 empty" ∷
    codes "log 5 empty" ∷
    codes "lawful" ∷
    [])

abbrev pub Resets5 : Type 0
Resets5 = play_text_of (rules_with (0 ∷ 1 ∷ 2 ∷ 3 ∷ 4 ∷ []) 2 64 4) (
    on 1 act.Tick ∷ on 1 (act.Done 1) ∷ on 1 (act.Reset 3 2) ∷ on 4 (act.Send []) ∷ on 0 (act.Hear 1) ∷ on 2 (act.Hear 2) ∷ on 3 act.Take ∷
    on 0 (act.Hear 2) ∷
    on 0 (act.Send (114 ∷ 72 ∷ 88 ∷ 248 ∷ 169 ∷ 85 ∷ 237 ∷ 209 ∷ 72 ∷ 90 ∷ 158 ∷ 241 ∷ 241 ∷ 6 ∷ 221 ∷ 248 ∷ 107 ∷ 162 ∷ 75 ∷ 136 ∷ 60 ∷ 181 ∷ 55 ∷
    212 ∷ 246 ∷ 245 ∷ 11 ∷ 148 ∷ 74 ∷ 181 ∷ 156 ∷ 76 ∷ 88 ∷ 64 ∷ 130 ∷ 184 ∷ 15 ∷ 175 ∷ 216 ∷ 173 ∷ [])) ∷
    on 3 (act.Hear 2) ∷ on 0 (act.Hear 3) ∷ on 0 (act.Hear 3) ∷ on 0 (act.Send (89 ∷ 200 ∷ 211 ∷ 154 ∷ 144 ∷ [])) ∷ on 1 (act.Done 3) ∷
    on 1 (act.Reset 1 2) ∷
    []) ≡ lines (
    codes "1 tick 1 : ticked | 1 Ack to 0" ∷
    codes "2 done 1 1 : unknown" ∷
    codes "3 reset 1 3 : waiting 0,2,3,4 | 2 Invite to 0,2,3,4" ∷
    codes "4 send 4 - : queued 1 | 3 Request to 0" ∷
    codes "5 hear 0 1 : noted" ∷
    codes "6 hear 2 2 : voted | 4 Vote to 1" ∷
    codes "7 take 3 : took 1 view 1.0 0,1,2,3,4" ∷
    codes "8 hear 0 2 : voted | 5 Vote to 1" ∷
    codes "9 send 0 724858f8a955edd1485a9ef1f106ddf86ba24b883cb537d4f6f50b944ab59c4c584082b80fafd8ad : queued 1" ∷
    codes "10 hear 3 2 : voted | 6 Vote to 1" ∷
    codes "11 hear 0 3 : elsewhere" ∷
    codes "12 hear 0 3 : elsewhere" ∷
    codes "13 send 0 59c8d39a90 : queued 2" ∷
    codes "14 done 1 3 : unknown" ∷
    codes "15 reset 1 1 : waiting 0,2,3,4 | 7 Invite to 0,2,3,4" ∷
    codes "group 1 view 1.0 0,1,2,3,4" ∷
    codes "log 0 empty" ∷
    codes "log 1 empty" ∷
    codes "log 2 empty" ∷
    codes "log 3 1 view 1.0 0,1,2,3,4" ∷
    codes "log 4 empty" ∷
    codes "lawful" ∷
    [])

abbrev pub Resets6 : Type 0
Resets6 = play_text_of (rules_with (0 ∷ 1 ∷ 2 ∷ 3 ∷ 4 ∷ []) 1 3 0) (
    on 4 act.Tick ∷ on 0 (act.Send (111 ∷ 202 ∷ 249 ∷ 116 ∷ 22 ∷ [])) ∷ on 4 act.Take ∷ on 1 (act.Hear 2) ∷ on 4 (act.Hear 2) ∷ on 1 act.Take ∷
    on 3 (act.Reset 3 1) ∷ on 1 (act.Hear 4) ∷ on 0 (act.Reset 3 1) ∷ on 2 act.Tick ∷ on 1 (act.Hear 4) ∷ on 0 (act.GiveUp 1) ∷ on 3 act.Tick ∷
    on 3 (act.Hear 6) ∷ on 0 (act.GiveUp 3) ∷
    []) ≡ lines (
    codes "1 tick 4 : ticked | 1 Ack to 0" ∷
    codes "2 send 0 6fcaf97416 : queued 1 | 2 Bcast to 1,2,3,4" ∷
    codes "3 take 4 : took 1 view 1.0 0,1,2,3,4" ∷
    codes "4 hear 1 2 : stored 2 | 3 Ack to 0" ∷
    codes "5 hear 4 2 : stored 2" ∷
    codes "6 take 1 : took 1 view 1.0 0,1,2,3,4" ∷
    codes "7 reset 3 3 : waiting 0,1,2,4 | 4 Invite to 0,1,2,4" ∷
    codes "8 hear 1 4 : voted | 5 Vote to 3" ∷
    codes "9 reset 0 3 : waiting 1,2,3,4 | 6 Invite to 1,2,3,4" ∷
    codes "10 tick 2 : ticked | 7 Ack to 0" ∷
    codes "11 hear 1 4 : voted | 8 Vote to 3" ∷
    codes "12 giveup 0 1 : not-stopped" ∷
    codes "13 tick 3 : ticked | 9 Invite to 0,1,2,4" ∷
    codes "14 hear 3 6 : newer 2.3 | 10 Vote to 0" ∷
    codes "15 giveup 0 3 : not-stopped" ∷
    codes "group 1 view 1.0 0,1,2,3,4" ∷
    codes "log 0 empty" ∷
    codes "log 1 1 view 1.0 0,1,2,3,4" ∷
    codes "log 2 empty" ∷
    codes "log 3 empty" ∷
    codes "log 4 1 view 1.0 0,1,2,3,4" ∷
    codes "lawful" ∷
    [])

abbrev pub Resets7 : Type 0
Resets7 = play_text_of (rules_with (0 ∷ 1 ∷ 2 ∷ 3 ∷ 4 ∷ 5 ∷ []) 0 3 0) (
    on 0 act.Tick ∷ on 2 act.Take ∷ on 5 act.Tick ∷ on 0 act.Take ∷ on 0 (act.Hear 2) ∷ on 3 act.Tick ∷ on 2 (act.Hear 1) ∷ on 5 (act.Hear 1) ∷
    on 4 (act.Send (212 ∷ [])) ∷ on 2 (act.Send (219 ∷ [])) ∷ on 5 act.Take ∷ on 1 (act.Hear 1) ∷
    on 0 (act.Send (13 ∷ 28 ∷ 123 ∷ 140 ∷ 79 ∷ 78 ∷ 195 ∷ 237 ∷ 61 ∷ 97 ∷ 46 ∷ 67 ∷ 26 ∷ 129 ∷ 197 ∷ 23 ∷ 150 ∷ 186 ∷ 183 ∷ 255 ∷ 90 ∷ 189 ∷ 254 ∷ 134
    ∷ 113 ∷ 255 ∷ 19 ∷ 61 ∷ 189 ∷ 246 ∷ 97 ∷ 82 ∷ 120 ∷ 132 ∷ 102 ∷ 172 ∷ 15 ∷ 168 ∷ 254 ∷ 239 ∷ [])) ∷
    on 0 (act.Hear 4) ∷ on 1 (act.Hear 6) ∷
    []) ≡ lines (
    codes "1 tick 0 : ticked | 1 Accept to 1,2,3,4,5" ∷
    codes "2 take 2 : took 1 view 1.0 0,1,2,3,4,5" ∷
    codes "3 tick 5 : ticked | 2 Ack to 0" ∷
    codes "4 take 0 : took 1 view 1.0 0,1,2,3,4,5" ∷
    codes "5 hear 0 2 : noted" ∷
    codes "6 tick 3 : ticked | 3 Ack to 0" ∷
    codes "7 hear 2 1 : known | 4 Ack to 0" ∷
    codes "8 hear 5 1 : known | 5 Ack to 0" ∷
    codes "9 send 4 d4 : queued 1 | 6 Spread to 0,1,2,3,5" ∷
    codes "10 send 2 db : queued 1 | 7 Spread to 0,1,3,4,5" ∷
    codes "11 take 5 : took 1 view 1.0 0,1,2,3,4,5" ∷
    codes "12 hear 1 1 : known | 8 Ack to 0" ∷
    (codes "13 send 0 0d1c7b8c4f4ec3ed3d612e431a81c51796bab7ff5abdfe8671ff133dbdf66152788466ac0fa8feef : queued 1 | 9 Bcast to 1,2,3"
    ++ codes ",4,5") ∷
    codes "14 hear 0 4 : noted" ∷
    codes "15 hear 1 6 : kept" ∷
    codes "group 1 view 1.0 0,1,2,3,4,5" ∷
    codes "group 2 data 0 1 0d1c7b8c4f4ec3ed3d612e431a81c51796bab7ff5abdfe8671ff133dbdf66152788466ac0fa8feef" ∷
    codes "log 0 1 view 1.0 0,1,2,3,4,5" ∷
    codes "log 1 empty" ∷
    codes "log 2 1 view 1.0 0,1,2,3,4,5" ∷
    codes "log 3 empty" ∷
    codes "log 4 empty" ∷
    codes "log 5 1 view 1.0 0,1,2,3,4,5" ∷
    codes "lawful" ∷
    [])

abbrev pub Resets8 : Type 0
Resets8 = play_text_of (rules_with (0 ∷ 1 ∷ 2 ∷ []) 0 16 4) (
    on 1 act.Tick ∷ on 0 (act.Hear 1) ∷ on 0 (act.Ask 4) ∷ on 1 act.Tick ∷ on 1 act.Tick ∷ on 0 (act.Hear 3) ∷ on 2 act.Take ∷ on 0 (act.Hear 3) ∷
    on 1 act.Tick ∷ on 2 (act.Hear 2) ∷ on 0 act.Take ∷ on 2 (act.Reset 1 0) ∷ on 0 (act.Hear 4) ∷ on 2 (act.GiveUp 0) ∷ on 1 (act.Hear 5) ∷
    on 2 (act.Hear 6) ∷ on 0 (act.Send (240 ∷ 157 ∷ [])) ∷ on 1 (act.Hear 7) ∷ on 2 act.Take ∷ on 0 (act.Hear 1) ∷ on 2 (act.Send (205 ∷ [])) ∷
    on 0 (act.Hear 5) ∷ on 1 act.Tick ∷ on 1 act.Take ∷ on 0 act.Take ∷ on 2 (act.Hear 7) ∷ on 1 (act.Hear 7) ∷
    on 1 (act.Send (80 ∷ 248 ∷ 130 ∷ 66 ∷ 252 ∷ [])) ∷ on 0 act.Take ∷ on 2 (act.Hear 9) ∷
    []) ≡ lines (
    codes "1 tick 1 : ticked | 1 Ack to 0" ∷
    codes "2 hear 0 1 : noted" ∷
    codes "3 ask 0 4 : unknown" ∷
    codes "4 tick 1 : ticked | 2 Ack to 0" ∷
    codes "5 tick 1 : ticked | 3 Ack to 0" ∷
    codes "6 hear 0 3 : noted" ∷
    codes "7 take 2 : took 1 view 1.0 0,1,2" ∷
    codes "8 hear 0 3 : noted" ∷
    codes "9 tick 1 : ticked | 4 Ack to 0" ∷
    codes "10 hear 2 2 : not-addressed" ∷
    codes "11 take 0 : took 1 view 1.0 0,1,2" ∷
    codes "12 reset 2 1 : waiting 0,1 | 5 Invite to 0,1" ∷
    codes "13 hear 0 4 : noted" ∷
    codes "14 giveup 2 0 : not-stopped" ∷
    codes "15 hear 1 5 : voted | 6 Vote to 2" ∷
    codes "16 hear 2 6 : waiting 0" ∷
    codes "17 send 0 f09d : queued 1 | 7 Bcast to 1,2" ∷
    codes "18 hear 1 7 : elsewhere" ∷
    codes "19 take 2 : empty" ∷
    codes "20 hear 0 1 : noted" ∷
    codes "21 send 2 cd : queued 1" ∷
    codes "22 hear 0 5 : voted | 8 Vote to 2" ∷
    codes "23 tick 1 : ticked | 9 Fetch to 2" ∷
    codes "24 take 1 : took 1 view 1.0 0,1,2" ∷
    codes "25 take 0 : took 2 data 0 1 f09d" ∷
    codes "26 hear 2 7 : elsewhere" ∷
    codes "27 hear 1 7 : elsewhere" ∷
    codes "28 send 1 50f88242fc : queued 1" ∷
    codes "29 take 0 : empty" ∷
    codes "30 hear 2 9 : elsewhere" ∷
    codes "group 1 view 1.0 0,1,2" ∷
    codes "group 2 data 0 1 f09d" ∷
    codes "log 0 1 view 1.0 0,1,2" ∷
    codes "log 0 2 data 0 1 f09d" ∷
    codes "log 1 1 view 1.0 0,1,2" ∷
    codes "log 2 1 view 1.0 0,1,2" ∷
    codes "lawful" ∷
    [])

abbrev pub Resets9 : Type 0
Resets9 = play_text_of (rules_with (0 ∷ 1 ∷ 2 ∷ []) 3 64 4) (
    on 1 act.Tick ∷ on 0 (act.Hear 1) ∷ on 2 (act.Reset 1 3) ∷ on 1 (act.Hear 2) ∷ on 1 (act.Hear 2) ∷ on 2 act.Tick ∷ on 2 (act.GiveUp 1) ∷
    on 2 (act.Reset 2 3) ∷ on 2 (act.Hear 3) ∷ on 1 act.Tick ∷ on 1 (act.Hear 5) ∷ on 0 (act.Ask 1) ∷ on 1 (act.Hear 5) ∷ on 0 (act.Hear 1) ∷
    on 1 (act.Send (54 ∷ 71 ∷ 220 ∷ 64 ∷ 189 ∷ [])) ∷ on 0 act.Tick ∷ on 2 (act.Hear 3) ∷ on 1 (act.Hear 6) ∷ on 0 (act.Send (127 ∷ [])) ∷
    on 2 (act.GiveUp 0) ∷ on 1 (act.Done 1) ∷ on 1 (act.Hear 10) ∷ on 0 act.Take ∷ on 0 (act.Done 1) ∷ on 2 (act.Hear 7) ∷ on 2 (act.GiveUp 0) ∷
    on 2 (act.GiveUp 0) ∷ on 0 (act.Send (0 ∷ [])) ∷ on 1 (act.Reset 2 3) ∷ on 0 (act.Reset 1 3) ∷
    []) ≡ lines (
    codes "1 tick 1 : ticked | 1 Ack to 0" ∷
    codes "2 hear 0 1 : noted" ∷
    codes "3 reset 2 1 : waiting 0,1 | 2 Invite to 0,1" ∷
    codes "4 hear 1 2 : voted | 3 Vote to 2" ∷
    codes "5 hear 1 2 : voted | 4 Vote to 2" ∷
    codes "6 tick 2 : ticked | 5 Invite to 0,1" ∷
    codes "7 giveup 2 1 : not-stopped" ∷
    codes "8 reset 2 2 : waiting 0,1 | 6 Invite to 0,1" ∷
    codes "9 hear 2 3 : elsewhere" ∷
    codes "10 tick 1 : ticked | 7 Fetch to 2" ∷
    codes "11 hear 1 5 : voted | 8 Vote to 2" ∷
    codes "12 ask 0 1 : unknown" ∷
    codes "13 hear 1 5 : voted | 9 Vote to 2" ∷
    codes "14 hear 0 1 : noted" ∷
    codes "15 send 1 3647dc40bd : queued 1" ∷
    codes "16 tick 0 : ticked | 10 Accept to 1,2" ∷
    codes "17 hear 2 3 : elsewhere" ∷
    codes "18 hear 1 6 : voted | 11 Vote to 2" ∷
    codes "19 send 0 7f : queued 1 | 12 Bcast to 1,2" ∷
    codes "20 giveup 2 0 : not-stopped" ∷
    codes "21 done 1 1 : pending 1" ∷
    codes "22 hear 1 10 : elsewhere" ∷
    codes "23 take 0 : took 1 view 1.0 0,1,2" ∷
    codes "24 done 0 1 : pending 1" ∷
    codes "25 hear 2 7 : elsewhere" ∷
    codes "26 giveup 2 0 : not-stopped" ∷
    codes "27 giveup 2 0 : not-stopped" ∷
    codes "28 send 0 00 : queued 2" ∷
    codes "29 reset 1 2 : waiting 0,2 | 13 Invite to 0,2" ∷
    codes "30 reset 0 1 : waiting 1,2 | 14 Invite to 1,2" ∷
    codes "group 1 view 1.0 0,1,2" ∷
    codes "log 0 1 view 1.0 0,1,2" ∷
    codes "log 1 empty" ∷
    codes "log 2 empty" ∷
    codes "lawful" ∷
    [])
