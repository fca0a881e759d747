-- Scripts and their texts. Written by tools/rows.py from cases/scenarios_moves.
use Rattle.std.specs.Prelude.{◌≡◌, [], ◌∷◌, ◌++◌, codes}
use Rattle.am_group.specs.declared.event.Act.TheVariants as act
use Rattle.am_group_defs.specs.Play.{play_text_of}
use Rattle.am_computed_cases.specs.Scripts.{rules_with, on, lines}

abbrev pub Moves1 : Type 0
Moves1 = play_text_of (rules_with (0 ∷ []) 1 16 256) (
    on 0 act.Tick ∷ on 2 act.Tick ∷ on 0 act.Tick ∷ on 0 act.Take ∷ on 0 (act.Send (173 ∷ 24 ∷ 110 ∷ 98 ∷ 222 ∷ [])) ∷ on 0 act.Take ∷ on 0 act.Take ∷
    on 3 act.Tick ∷ on 0 act.Tick ∷ on 1 act.Take ∷ on 3 act.Take ∷ on 0 act.Take ∷ on 0 act.Tick ∷ on 3 act.Take ∷ on 1 act.Tick ∷
    []) ≡ lines (
    codes "1 tick 0 : ticked" ∷
    codes "2 tick 2 : idle" ∷
    codes "3 tick 0 : ticked" ∷
    codes "4 take 0 : took 1 view 1.0 0" ∷
    codes "5 send 0 ad186e62de : queued 1" ∷
    codes "6 take 0 : took 2 data 0 1 ad186e62de" ∷
    codes "7 take 0 : empty" ∷
    codes "8 tick 3 : idle" ∷
    codes "9 tick 0 : ticked" ∷
    codes "10 take 1 : not-member" ∷
    codes "11 take 3 : not-member" ∷
    codes "12 take 0 : empty" ∷
    codes "13 tick 0 : ticked" ∷
    codes "14 take 3 : not-member" ∷
    codes "15 tick 1 : idle" ∷
    codes "group 1 view 1.0 0" ∷
    codes "group 2 data 0 1 ad186e62de" ∷
    codes "log 0 1 view 1.0 0" ∷
    codes "log 0 2 data 0 1 ad186e62de" ∷
    codes "lawful" ∷
    [])

abbrev pub Moves10 : Type 0
Moves10 = play_text_of (rules_with (0 ∷ 2 ∷ 3 ∷ 4 ∷ []) 1 16 0) (
    on 2 (act.Done 4) ∷ on 2 act.Tick ∷ on 0 (act.Hear 1) ∷ on 3 (act.Done 3) ∷ on 1 (act.Send (81 ∷ 156 ∷ [])) ∷ on 0 (act.Hear 1) ∷ on 3 act.Take ∷
    on 3 (act.Done 1) ∷ on 3 (act.Done 3) ∷ on 0 act.Take ∷ on 3 act.Join ∷ on 2 (act.Done 4) ∷ on 0 (act.Send []) ∷ on 2 (act.Send (101 ∷ [])) ∷
    on 0 act.Join ∷ on 4 (act.Hear 3) ∷ on 4 act.State ∷
    on 0 (act.Send (128 ∷ 52 ∷ 115 ∷ 207 ∷ 251 ∷ 151 ∷ 210 ∷ 67 ∷ 11 ∷ 185 ∷ 100 ∷ 136 ∷ 56 ∷ 0 ∷ 86 ∷ 194 ∷ 67 ∷ 35 ∷ 44 ∷ 155 ∷ 74 ∷ 141 ∷ 61 ∷ 210
    ∷ 217 ∷ 64 ∷ 112 ∷ 74 ∷ 94 ∷ 40 ∷ 169 ∷ 74 ∷ 211 ∷ 36 ∷ 198 ∷ 61 ∷ 48 ∷ 48 ∷ 91 ∷ 215 ∷ 113 ∷ 209 ∷ 2 ∷ 60 ∷ 231 ∷ 123 ∷ 168 ∷ 55 ∷ 71 ∷ 46 ∷ 211
    ∷ 117 ∷ 160 ∷ 248 ∷ 253 ∷ 199 ∷ 231 ∷ 195 ∷ 126 ∷ 121 ∷ 48 ∷ 233 ∷ 190 ∷ 196 ∷ 109 ∷ 162 ∷ 165 ∷ 66 ∷ 3 ∷ 120 ∷ 10 ∷ 13 ∷ 253 ∷ 208 ∷ 237 ∷ 217 ∷
    18 ∷ 1 ∷ 144 ∷ 112 ∷ 154 ∷ 159 ∷ 205 ∷ 74 ∷ 1 ∷ 109 ∷ 50 ∷ 0 ∷ 138 ∷ 246 ∷ 239 ∷ 179 ∷ 248 ∷ 84 ∷ 63 ∷ 194 ∷ 47 ∷ 160 ∷ 25 ∷ 234 ∷ 174 ∷ 144 ∷ 226
    ∷ 114 ∷ 235 ∷ 72 ∷ 240 ∷ 155 ∷ 161 ∷ 25 ∷ 110 ∷ 11 ∷ 15 ∷ 89 ∷ 204 ∷ 127 ∷ 121 ∷ 176 ∷ 215 ∷ 128 ∷ 177 ∷ 22 ∷ 140 ∷ 236 ∷ 2 ∷ 102 ∷ 4 ∷ 27 ∷ 73 ∷
    84 ∷ 149 ∷ 184 ∷ 195 ∷ 215 ∷ 113 ∷ 15 ∷ 197 ∷ 221 ∷ 253 ∷ 110 ∷ 84 ∷ 243 ∷ 25 ∷ 231 ∷ 135 ∷ 225 ∷ 192 ∷ 102 ∷ 206 ∷ 94 ∷ 168 ∷ 11 ∷ 251 ∷ 44 ∷ 145
    ∷ 28 ∷ 184 ∷ 89 ∷ 11 ∷ 187 ∷ 195 ∷ 255 ∷ 30 ∷ 130 ∷ 46 ∷ 105 ∷ 252 ∷ 75 ∷ 151 ∷ 179 ∷ 23 ∷ 11 ∷ 112 ∷ 57 ∷ 232 ∷ 131 ∷ 133 ∷ 197 ∷ 32 ∷ 98 ∷ 43 ∷
    163 ∷ 63 ∷ 201 ∷ 133 ∷ 23 ∷ 66 ∷ 159 ∷ 230 ∷ 57 ∷ 109 ∷ 244 ∷ 164 ∷ 129 ∷ 246 ∷ 194 ∷ 87 ∷ 245 ∷ 228 ∷ 110 ∷ 53 ∷ 171 ∷ 112 ∷ 114 ∷ 9 ∷ 237 ∷ 90 ∷
    197 ∷ 27 ∷ 248 ∷ 166 ∷ 128 ∷ 37 ∷ 78 ∷ 110 ∷ 185 ∷ 160 ∷ 92 ∷ 249 ∷ 23 ∷ 221 ∷ 108 ∷ 57 ∷ 121 ∷ 203 ∷ 133 ∷ 186 ∷ 46 ∷ 104 ∷ 161 ∷ 217 ∷ 108 ∷ 18
    ∷ 119 ∷ 6 ∷ 193 ∷ 36 ∷ 117 ∷ 237 ∷ 221 ∷ 3 ∷ 63 ∷ 160 ∷ 20 ∷ 74 ∷ 57 ∷ 196 ∷ 191 ∷ 4 ∷ 183 ∷ 199 ∷ 98 ∷ 207 ∷ 201 ∷ 8 ∷ 253 ∷ [])) ∷
    on 2 act.Join ∷ on 3 (act.Done 5) ∷ on 0 (act.Hear 3) ∷ on 1 act.Join ∷ on 3 (act.Hear 2) ∷ on 3 act.Take ∷ on 4 (act.Hear 4) ∷ on 0 (act.Hear 3)
    ∷
    on 3 act.Take ∷ on 2 (act.Hear 2) ∷ on 0 (act.Hear 5) ∷ on 3 (act.Hear 3) ∷
    []) ≡ lines (
    codes "1 done 2 4 : unknown" ∷
    codes "2 tick 2 : ticked | 1 Ack to 0" ∷
    codes "3 hear 0 1 : noted" ∷
    codes "4 done 3 3 : unknown" ∷
    codes "5 send 1 519c : not-member" ∷
    codes "6 hear 0 1 : noted" ∷
    codes "7 take 3 : took 1 view 1.0 0,2,3,4" ∷
    codes "8 done 3 1 : unknown" ∷
    codes "9 done 3 3 : unknown" ∷
    codes "10 take 0 : took 1 view 1.0 0,2,3,4" ∷
    codes "11 join 3 : joined 1" ∷
    codes "12 done 2 4 : unknown" ∷
    codes "13 send 0 - : queued 1 | 2 Bcast to 2,3,4" ∷
    codes "14 send 2 65 : queued 1 | 3 Spread to 0,3,4" ∷
    codes "15 join 0 : joined 1" ∷
    codes "16 hear 4 3 : kept" ∷
    codes "17 state 4 : joined 1" ∷
    (codes "18 send 0 803473cffb97d2430bb96488380056c243232c9b4a8d3dd2d940704a5e28a94ad324c63d30305bd771d1023ce77ba837472ed375a0f8fd"
    ++ codes "c7e7c37e7930e9bec46da2a54203780a0dfdd0edd9120190709a9fcd4a016d32008af6efb3f8543fc22fa019eaae90e272eb48f09ba1196e0b0f59cc"
    ++ codes "7f79b0d780b1168cec0266041b495495b8c3d7710fc5ddfd6e54f319e787e1c066ce5ea80bfb2c911cb8590bbbc3ff1e822e69fc4b97b3170b7039e8"
    ++ codes "8385c520622ba33fc98517429fe6396df4a481f6c257f5e46e35ab707209ed5ac51bf8a680254e6eb9a05cf917dd6c3979cb85ba2e68a1d96c127706"
    ++ codes "c12475eddd033fa0144a39c4bf04b7c762cfc908fd : queued 2") ∷
    codes "19 join 2 : joined 1" ∷
    codes "20 done 3 5 : unknown" ∷
    codes "21 hear 0 3 : numbered 3 | 4 Order to 2,3,4" ∷
    codes "22 join 1 : asked | 5 JoinAsk to all" ∷
    codes "23 hear 3 2 : stored 2" ∷
    codes "24 take 3 : empty" ∷
    codes "25 hear 4 4 : gap 2 | 6 Nack to 0" ∷
    codes "26 hear 0 3 : again" ∷
    codes "27 take 3 : empty" ∷
    codes "28 hear 2 2 : stored 2 | 7 Ack to 0" ∷
    codes "29 hear 0 5 : numbered 4 | 8 Bcast to 2,3,4" ∷
    codes "30 hear 3 3 : kept" ∷
    codes "group 1 view 1.0 0,2,3,4" ∷
    codes "log 0 1 view 1.0 0,2,3,4" ∷
    codes "log 2 empty" ∷
    codes "log 3 1 view 1.0 0,2,3,4" ∷
    codes "log 4 empty" ∷
    codes "lawful" ∷
    [])

abbrev pub Moves2 : Type 0
Moves2 = play_text_of (rules_with (0 ∷ []) 1 3 0) (
    on 2 act.Tick ∷ on 0 act.Tick ∷ on 0 act.Tick ∷ on 2 act.Join ∷ on 1 (act.Hear 1) ∷ on 1 act.Tick ∷ on 1 act.Tick ∷ on 0 act.Tick ∷
    on 2 (act.Done 3) ∷ on 1 act.Join ∷ on 0 (act.Hear 1) ∷ on 1 (act.Send (157 ∷ 11 ∷ 198 ∷ 79 ∷ 112 ∷ [])) ∷ on 2 act.Tick ∷ on 1 (act.Done 5) ∷
    on 1 (act.Hear 4) ∷
    []) ≡ lines (
    codes "1 tick 2 : idle" ∷
    codes "2 tick 0 : ticked" ∷
    codes "3 tick 0 : ticked" ∷
    codes "4 join 2 : asked | 1 JoinAsk to all" ∷
    codes "5 hear 1 1 : elsewhere" ∷
    codes "6 tick 1 : idle" ∷
    codes "7 tick 1 : idle" ∷
    codes "8 tick 0 : ticked" ∷
    codes "9 done 2 3 : unknown" ∷
    codes "10 join 1 : asked | 2 JoinAsk to all" ∷
    codes "11 hear 0 1 : numbered 2 | 3 Welcome to 2" ∷
    codes "12 send 1 9d0bc64f70 : not-member" ∷
    codes "13 tick 2 : ticked | 4 JoinAsk to all" ∷
    codes "14 done 1 5 : unknown" ∷
    codes "15 hear 1 4 : elsewhere" ∷
    codes "group 1 view 1.0 0" ∷
    codes "group 2 join 2" ∷
    codes "log 0 empty" ∷
    codes "lawful" ∷
    [])

abbrev pub Moves3 : Type 0
Moves3 = play_text_of (rules_with (0 ∷ 1 ∷ []) 0 64 256) (
    on 3 act.Take ∷ on 0 act.Tick ∷ on 0 (act.Send (73 ∷ 116 ∷ 59 ∷ 85 ∷ 75 ∷ [])) ∷ on 3 act.Leave ∷ on 1 (act.Hear 1) ∷ on 0 (act.Hear 3) ∷
    on 1 (act.Hear 1) ∷ on 1 act.Join ∷ on 3 act.Tick ∷ on 5 act.Join ∷ on 4 (act.Hear 5) ∷ on 3 (act.Hear 5) ∷ on 2 (act.Hear 5) ∷ on 0 (act.Hear 4)
    ∷
    on 0 (act.Hear 4) ∷
    []) ≡ lines (
    codes "1 take 3 : not-member" ∷
    codes "2 tick 0 : ticked | 1 Accept to 1" ∷
    codes "3 send 0 49743b554b : queued 1 | 2 Bcast to 1" ∷
    codes "4 leave 3 : not-member" ∷
    codes "5 hear 1 1 : known | 3 Ack to 0" ∷
    codes "6 hear 0 3 : noted" ∷
    codes "7 hear 1 1 : known | 4 Ack to 0" ∷
    codes "8 join 1 : joined 1" ∷
    codes "9 tick 3 : idle" ∷
    codes "10 join 5 : asked | 5 JoinAsk to all" ∷
    codes "11 hear 4 5 : elsewhere" ∷
    codes "12 hear 3 5 : elsewhere" ∷
    codes "13 hear 2 5 : elsewhere" ∷
    codes "14 hear 0 4 : noted" ∷
    codes "15 hear 0 4 : noted" ∷
    codes "group 1 view 1.0 0,1" ∷
    codes "group 2 data 0 1 49743b554b" ∷
    codes "log 0 empty" ∷
    codes "log 1 empty" ∷
    codes "lawful" ∷
    [])

abbrev pub Moves4 : Type 0
Moves4 = play_text_of (rules_with (0 ∷ 2 ∷ 4 ∷ 5 ∷ []) 0 5 256) (
    on 4 act.Take ∷ on 4 (act.Done 1) ∷ on 5 act.Take ∷ on 1 (act.Done 3) ∷ on 4 act.Tick ∷ on 2 act.Tick ∷ on 3 act.Tick ∷ on 0 act.Tick ∷
    on 1 act.Leave ∷ on 5 act.Take ∷ on 4 act.Take ∷ on 0 (act.Hear 1) ∷ on 1 act.Tick ∷ on 3 act.Tick ∷ on 2 (act.Hear 3) ∷
    []) ≡ lines (
    codes "1 take 4 : took 1 view 1.0 0,2,4,5" ∷
    codes "2 done 4 1 : unknown" ∷
    codes "3 take 5 : took 1 view 1.0 0,2,4,5" ∷
    codes "4 done 1 3 : unknown" ∷
    codes "5 tick 4 : ticked | 1 Ack to 0" ∷
    codes "6 tick 2 : ticked | 2 Ack to 0" ∷
    codes "7 tick 3 : idle" ∷
    codes "8 tick 0 : ticked | 3 Accept to 2,4,5" ∷
    codes "9 leave 1 : not-member" ∷
    codes "10 take 5 : empty" ∷
    codes "11 take 4 : empty" ∷
    codes "12 hear 0 1 : noted" ∷
    codes "13 tick 1 : idle" ∷
    codes "14 tick 3 : idle" ∷
    codes "15 hear 2 3 : known | 4 Ack to 0" ∷
    codes "group 1 view 1.0 0,2,4,5" ∷
    codes "log 0 empty" ∷
    codes "log 2 empty" ∷
    codes "log 4 1 view 1.0 0,2,4,5" ∷
    codes "log 5 1 view 1.0 0,2,4,5" ∷
    codes "lawful" ∷
    [])

abbrev pub Moves5 : Type 0
Moves5 = play_text_of (rules_with (0 ∷ 1 ∷ 2 ∷ 3 ∷ 4 ∷ []) 1 64 4) (
    on 4 act.Tick ∷ on 0 (act.Hear 1) ∷ on 0 act.Tick ∷ on 1 act.Tick ∷ on 4 act.Tick ∷ on 4 act.Tick ∷ on 1 act.Tick ∷ on 3 (act.Hear 2) ∷
    on 2 (act.Hear 2) ∷ on 0 (act.Hear 3) ∷ on 1 act.State ∷ on 0 act.Tick ∷ on 3 act.Tick ∷ on 1 (act.Done 4) ∷ on 1 (act.Hear 9) ∷
    []) ≡ lines (
    codes "1 tick 4 : ticked | 1 Ack to 0" ∷
    codes "2 hear 0 1 : noted" ∷
    codes "3 tick 0 : ticked | 2 Accept to 1,2,3,4" ∷
    codes "4 tick 1 : ticked | 3 Ack to 0" ∷
    codes "5 tick 4 : ticked | 4 Ack to 0" ∷
    codes "6 tick 4 : ticked | 5 Ack to 0" ∷
    codes "7 tick 1 : ticked | 6 Ack to 0" ∷
    codes "8 hear 3 2 : known | 7 Ack to 0" ∷
    codes "9 hear 2 2 : known | 8 Ack to 0" ∷
    codes "10 hear 0 3 : noted" ∷
    codes "11 state 1 : joined 1" ∷
    codes "12 tick 0 : ticked | 9 Accept to 1,2,3,4" ∷
    codes "13 tick 3 : ticked | 10 Ack to 0" ∷
    codes "14 done 1 4 : unknown" ∷
    codes "15 hear 1 9 : known | 11 Ack to 0" ∷
    codes "group 1 view 1.0 0,1,2,3,4" ∷
    codes "log 0 empty" ∷
    codes "log 1 empty" ∷
    codes "log 2 empty" ∷
    codes "log 3 empty" ∷
    codes "log 4 empty" ∷
    codes "lawful" ∷
    [])

abbrev pub Moves6 : Type 0
Moves6 = play_text_of (rules_with (0 ∷ []) 1 16 0) (
    on 0 act.Tick ∷ on 1 act.Tick ∷ on 1 act.Take ∷ on 0 act.Tick ∷ on 1 act.Take ∷ on 2 (act.Done 5) ∷ on 0 act.Tick ∷ on 1 (act.Done 1) ∷
    on 2 act.Take ∷ on 2 act.Tick ∷
    on 1 (act.Send (184 ∷ 193 ∷ 249 ∷ 205 ∷ 153 ∷ 166 ∷ 195 ∷ 38 ∷ 72 ∷ 141 ∷ 215 ∷ 169 ∷ 183 ∷ 137 ∷ 228 ∷ 163 ∷ 125 ∷ 138 ∷ 178 ∷ 151 ∷ 162 ∷ 241 ∷
    152 ∷ 130 ∷ 83 ∷ 99 ∷ 127 ∷ 139 ∷ 144 ∷ 14 ∷ 248 ∷ 253 ∷ 6 ∷ 252 ∷ 211 ∷ 24 ∷ 112 ∷ 223 ∷ 28 ∷ 241 ∷ [])) ∷
    on 1 (act.Done 3) ∷ on 0 act.Take ∷ on 2 (act.Done 5) ∷ on 2 (act.Send (188 ∷ 167 ∷ 101 ∷ 9 ∷ 170 ∷ [])) ∷ on 1 act.Tick ∷ on 0 (act.Done 5) ∷
    on 0 act.Tick ∷ on 0 (act.Done 3) ∷ on 1 act.Join ∷ on 0 (act.Done 4) ∷ on 0 act.Tick ∷ on 0 act.Take ∷ on 0 (act.Hear 1) ∷ on 1 (act.Hear 2) ∷
    on 0 act.Leave ∷ on 1 (act.Hear 4) ∷ on 2 (act.Hear 1) ∷ on 1 act.Take ∷ on 0 act.State ∷
    []) ≡ lines (
    codes "1 tick 0 : ticked" ∷
    codes "2 tick 1 : idle" ∷
    codes "3 take 1 : not-member" ∷
    codes "4 tick 0 : ticked" ∷
    codes "5 take 1 : not-member" ∷
    codes "6 done 2 5 : unknown" ∷
    codes "7 tick 0 : ticked" ∷
    codes "8 done 1 1 : unknown" ∷
    codes "9 take 2 : not-member" ∷
    codes "10 tick 2 : idle" ∷
    codes "11 send 1 b8c1f9cd99a6c326488dd7a9b789e4a37d8ab297a2f1988253637f8b900ef8fd06fcd31870df1cf1 : not-member" ∷
    codes "12 done 1 3 : unknown" ∷
    codes "13 take 0 : took 1 view 1.0 0" ∷
    codes "14 done 2 5 : unknown" ∷
    codes "15 send 2 bca76509aa : not-member" ∷
    codes "16 tick 1 : idle" ∷
    codes "17 done 0 5 : unknown" ∷
    codes "18 tick 0 : ticked" ∷
    codes "19 done 0 3 : unknown" ∷
    codes "20 join 1 : asked | 1 JoinAsk to all" ∷
    codes "21 done 0 4 : unknown" ∷
    codes "22 tick 0 : ticked" ∷
    codes "23 take 0 : empty" ∷
    codes "24 hear 0 1 : numbered 2 | 2 Welcome to 1" ∷
    codes "25 hear 1 2 : welcomed 2 | 3 Nack to 0" ∷
    codes "26 leave 0 : asked | 4 HandOver to 1" ∷
    codes "27 hear 1 4 : not-member" ∷
    codes "28 hear 2 1 : elsewhere" ∷
    codes "29 take 1 : empty" ∷
    codes "30 state 0 : leaving" ∷
    codes "group 1 view 1.0 0" ∷
    codes "group 2 join 1" ∷
    codes "log 0 1 view 1.0 0" ∷
    codes "log 1 empty" ∷
    codes "lawful" ∷
    [])

abbrev pub Moves7 : Type 0
Moves7 = play_text_of (rules_with (0 ∷ []) 0 64 0) (
    on 1 act.Tick ∷ on 0 act.State ∷ on 0 act.State ∷ on 0 act.Take ∷ on 2 act.Take ∷ on 2 act.Take ∷ on 2 act.Take ∷ on 0 act.Tick ∷ on 0 act.Join ∷
    on 1 act.Leave ∷ on 1 (act.Send (223 ∷ 50 ∷ 229 ∷ 154 ∷ 217 ∷ [])) ∷
    on 2 (act.Send (82 ∷ 184 ∷ 74 ∷ 207 ∷ 97 ∷ 37 ∷ 161 ∷ 95 ∷ 85 ∷ 18 ∷ 61 ∷ 66 ∷ 95 ∷ 213 ∷ 136 ∷ 241 ∷ 35 ∷ 104 ∷ 174 ∷ 232 ∷ 12 ∷ 200 ∷ 133 ∷ 77 ∷
    186 ∷ 146 ∷ 52 ∷ 239 ∷ 166 ∷ 175 ∷ 215 ∷ 155 ∷ 116 ∷ 76 ∷ 4 ∷ 179 ∷ 8 ∷ 112 ∷ 209 ∷ 108 ∷ 245 ∷ 112 ∷ 107 ∷ 255 ∷ 150 ∷ 108 ∷ 132 ∷ 38 ∷ 11 ∷ 96 ∷
    217 ∷ 42 ∷ 139 ∷ 217 ∷ 147 ∷ 36 ∷ 73 ∷ 189 ∷ 153 ∷ 243 ∷ 158 ∷ 91 ∷ 90 ∷ 101 ∷ 154 ∷ 66 ∷ 244 ∷ 146 ∷ 91 ∷ 48 ∷ 91 ∷ 182 ∷ 126 ∷ 137 ∷ 133 ∷ 61 ∷
    100 ∷ 114 ∷ 175 ∷ 6 ∷ 254 ∷ 186 ∷ 122 ∷ 122 ∷ 98 ∷ 217 ∷ 135 ∷ 102 ∷ 21 ∷ 161 ∷ 253 ∷ 196 ∷ 18 ∷ 238 ∷ 99 ∷ 124 ∷ 199 ∷ 99 ∷ 253 ∷ 72 ∷ 186 ∷ 250
    ∷ 225 ∷ 122 ∷ 113 ∷ 102 ∷ 0 ∷ 126 ∷ 207 ∷ 179 ∷ 24 ∷ 181 ∷ 99 ∷ 158 ∷ 58 ∷ 254 ∷ 94 ∷ 25 ∷ 41 ∷ 248 ∷ 55 ∷ 135 ∷ 123 ∷ 116 ∷ 195 ∷ 112 ∷ 47 ∷ 96 ∷
    21 ∷ 64 ∷ 188 ∷ 101 ∷ 182 ∷ 36 ∷ 191 ∷ 137 ∷ 41 ∷ 125 ∷ 150 ∷ 89 ∷ 91 ∷ 97 ∷ 97 ∷ 116 ∷ 18 ∷ 143 ∷ 66 ∷ 65 ∷ 23 ∷ 141 ∷ 65 ∷ 52 ∷ 19 ∷ 230 ∷ 176 ∷
    212 ∷ 220 ∷ 104 ∷ 184 ∷ 133 ∷ 21 ∷ 10 ∷ 15 ∷ 55 ∷ 124 ∷ 201 ∷ 229 ∷ 255 ∷ 187 ∷ 219 ∷ 125 ∷ 230 ∷ 248 ∷ 193 ∷ 252 ∷ 67 ∷ 164 ∷ 128 ∷ 232 ∷ 45 ∷ 34
    ∷ 48 ∷ 236 ∷ 48 ∷ 190 ∷ 244 ∷ 68 ∷ 104 ∷ 91 ∷ 12 ∷ 230 ∷ 244 ∷ 116 ∷ 218 ∷ 151 ∷ 231 ∷ 254 ∷ 220 ∷ 178 ∷ 44 ∷ 38 ∷ 246 ∷ 197 ∷ 156 ∷ 73 ∷ 132 ∷ 8
    ∷ 210 ∷ 74 ∷ 70 ∷ 223 ∷ 33 ∷ 156 ∷ 62 ∷ 48 ∷ 251 ∷ 162 ∷ 187 ∷ 23 ∷ 238 ∷ 240 ∷ 167 ∷ 39 ∷ 81 ∷ 135 ∷ 10 ∷ 117 ∷ 226 ∷ 141 ∷ 66 ∷ 252 ∷ 223 ∷ 88 ∷
    186 ∷ 86 ∷ 68 ∷ 168 ∷ 48 ∷ 7 ∷ 220 ∷ 214 ∷ 115 ∷ 125 ∷ 161 ∷ 111 ∷ 58 ∷ 7 ∷ 216 ∷ 165 ∷ 182 ∷ 29 ∷ 170 ∷ 43 ∷ 82 ∷ 88 ∷ 6 ∷ 85 ∷ [])) ∷
    on 1 act.Take ∷ on 2 act.Take ∷ on 1 act.Tick ∷
    []) ≡ lines (
    codes "1 tick 1 : idle" ∷
    codes "2 state 0 : joined 1" ∷
    codes "3 state 0 : joined 1" ∷
    codes "4 take 0 : took 1 view 1.0 0" ∷
    codes "5 take 2 : not-member" ∷
    codes "6 take 2 : not-member" ∷
    codes "7 take 2 : not-member" ∷
    codes "8 tick 0 : ticked" ∷
    codes "9 join 0 : joined 1" ∷
    codes "10 leave 1 : not-member" ∷
    codes "11 send 1 df32e59ad9 : not-member" ∷
    (codes "12 send 2 52b84acf6125a15f55123d425fd588f12368aee80cc8854dba9234efa6afd79b744c04b30870d16cf5706bff966c84260b60d92a8bd993"
    ++ codes "2449bd99f39e5b5a659a42f4925b305bb67e89853d6472af06feba7a7a62d9876615a1fdc412ee637cc763fd48bafae17a7166007ecfb318b5639e3a"
    ++ codes "fe5e1929f837877b74c3702f601540bc65b624bf89297d96595b616174128f4241178d413413e6b0d4dc68b885150a0f377cc9e5ffbbdb7de6f8c1fc"
    ++ codes "43a480e82d2230ec30bef444685b0ce6f474da97e7fedcb22c26f6c59c498408d24a46df219c3e30fba2bb17eef0a72751870a75e28d42fcdf58ba56"
    ++ codes "44a83007dcd6737da16f3a07d8a5b61daa2b52580655 : not-member") ∷
    codes "13 take 1 : not-member" ∷
    codes "14 take 2 : not-member" ∷
    codes "15 tick 1 : idle" ∷
    codes "group 1 view 1.0 0" ∷
    codes "log 0 1 view 1.0 0" ∷
    codes "lawful" ∷
    [])

abbrev pub Moves8 : Type 0
Moves8 = play_text_of (rules_with (0 ∷ 1 ∷ []) 0 64 256) (
    on 1 act.Join ∷ on 1 act.Take ∷ on 1 act.Tick ∷ on 1 act.Tick ∷ on 0 (act.Hear 2) ∷ on 1 act.Take ∷ on 1 act.Tick ∷ on 0 (act.Hear 3) ∷
    on 0 act.Take ∷ on 0 act.Tick ∷ on 0 act.Tick ∷ on 1 (act.Hear 4) ∷ on 1 (act.Hear 5) ∷
    on 0 (act.Send (138 ∷ 158 ∷ 146 ∷ 114 ∷ 146 ∷ 141 ∷ 254 ∷ 74 ∷ 93 ∷ 102 ∷ 224 ∷ 48 ∷ 144 ∷ 14 ∷ 145 ∷ 53 ∷ 171 ∷ 149 ∷ 142 ∷ 91 ∷ 133 ∷ 144 ∷ 114
    ∷ 46 ∷ 249 ∷ 80 ∷ 248 ∷ 209 ∷ 231 ∷ 200 ∷ 13 ∷ 179 ∷ 186 ∷ 226 ∷ 64 ∷ 16 ∷ 55 ∷ 215 ∷ 85 ∷ 60 ∷ [])) ∷
    on 0 (act.Hear 6) ∷ on 1 (act.Hear 4) ∷ on 0 (act.Hear 7) ∷ on 1 (act.Hear 8) ∷ on 0 (act.Send (110 ∷ [])) ∷ on 0 (act.Hear 9) ∷
    on 1 (act.Hear 10) ∷ on 0 (act.Hear 7) ∷ on 1 (act.Done 2) ∷ on 0 (act.Hear 3) ∷ on 1 (act.Done 5) ∷ on 0 act.Tick ∷ on 1 (act.Hear 11) ∷
    on 0 (act.Hear 12) ∷ on 0 (act.Hear 9) ∷ on 0 act.Join ∷
    []) ≡ lines (
    codes "1 join 1 : joined 1" ∷
    codes "2 take 1 : took 1 view 1.0 0,1" ∷
    codes "3 tick 1 : ticked | 1 Ack to 0" ∷
    codes "4 tick 1 : ticked | 2 Ack to 0" ∷
    codes "5 hear 0 2 : noted" ∷
    codes "6 take 1 : empty" ∷
    codes "7 tick 1 : ticked | 3 Ack to 0" ∷
    codes "8 hear 0 3 : noted" ∷
    codes "9 take 0 : took 1 view 1.0 0,1" ∷
    codes "10 tick 0 : ticked | 4 Accept to 1" ∷
    codes "11 tick 0 : ticked | 5 Accept to 1" ∷
    codes "12 hear 1 4 : known | 6 Ack to 0" ∷
    codes "13 hear 1 5 : known | 7 Ack to 0" ∷
    codes "14 send 0 8a9e9272928dfe4a5d66e030900e9135ab958e5b8590722ef950f8d1e7c80db3bae2401037d7553c : queued 1 | 8 Bcast to 1" ∷
    codes "15 hear 0 6 : noted" ∷
    codes "16 hear 1 4 : known | 9 Ack to 0" ∷
    codes "17 hear 0 7 : noted" ∷
    codes "18 hear 1 8 : stored 2" ∷
    codes "19 send 0 6e : queued 2 | 10 Bcast to 1" ∷
    codes "20 hear 0 9 : noted" ∷
    codes "21 hear 1 10 : stored 3" ∷
    codes "22 hear 0 7 : noted" ∷
    codes "23 done 1 2 : unknown" ∷
    codes "24 hear 0 3 : noted" ∷
    codes "25 done 1 5 : unknown" ∷
    codes "26 tick 0 : ticked | 11 Accept to 1" ∷
    codes "27 hear 1 11 : known | 12 Ack to 0" ∷
    codes "28 hear 0 12 : noted" ∷
    codes "29 hear 0 9 : noted" ∷
    codes "30 join 0 : joined 1" ∷
    codes "group 1 view 1.0 0,1" ∷
    codes "group 2 data 0 1 8a9e9272928dfe4a5d66e030900e9135ab958e5b8590722ef950f8d1e7c80db3bae2401037d7553c" ∷
    codes "group 3 data 0 2 6e" ∷
    codes "log 0 1 view 1.0 0,1" ∷
    codes "log 1 1 view 1.0 0,1" ∷
    codes "lawful" ∷
    [])

abbrev pub Moves9 : Type 0
Moves9 = play_text_of (rules_with (2 ∷ 3 ∷ 4 ∷ []) 0 2 0) (
    on 0 act.Tick ∷ on 0 act.Take ∷ on 3 act.Take ∷ on 4 (act.Send (94 ∷ [])) ∷ on 2 (act.Hear 1) ∷ on 3 (act.Hear 1) ∷ on 3 (act.Hear 2) ∷
    on 4 (act.Hear 2) ∷ on 3 (act.Done 2) ∷ on 2 (act.Done 1) ∷ on 2 (act.Hear 1) ∷ on 2 act.Take ∷ on 2 (act.Hear 1) ∷ on 1 act.Tick ∷ on 1 act.State
    ∷
    on 4 (act.Send (251 ∷ 165 ∷ 98 ∷ 124 ∷ 155 ∷ [])) ∷ on 3 (act.Hear 3) ∷ on 2 (act.Hear 3) ∷ on 1 (act.Hear 7) ∷ on 2 act.Join ∷ on 3 (act.Hear 4)
    ∷
    on 2 (act.Hear 1) ∷ on 2 (act.Hear 3) ∷
    on 2 (act.Send (247 ∷ 208 ∷ 232 ∷ 220 ∷ 201 ∷ 153 ∷ 39 ∷ 213 ∷ 8 ∷ 132 ∷ 108 ∷ 142 ∷ 103 ∷ 3 ∷ 230 ∷ 150 ∷ 90 ∷ 167 ∷ 39 ∷ 248 ∷ 88 ∷ 94 ∷ 226 ∷
    126 ∷ 107 ∷ 181 ∷ 121 ∷ 29 ∷ 93 ∷ 94 ∷ 90 ∷ 196 ∷ 212 ∷ 23 ∷ 29 ∷ 165 ∷ 44 ∷ 235 ∷ 232 ∷ 141 ∷ [])) ∷
    on 3 act.Tick ∷ on 4 (act.Hear 4) ∷ on 2 act.Tick ∷ on 2 (act.Hear 10) ∷ on 2 (act.Hear 3) ∷ on 3 (act.Hear 7) ∷
    []) ≡ lines (
    codes "1 tick 0 : idle" ∷
    codes "2 take 0 : not-member" ∷
    codes "3 take 3 : took 1 view 1.2 2,3,4" ∷
    codes "4 send 4 5e : queued 1 | 1 Spread to 2,3" ∷
    codes "5 hear 2 1 : numbered 2 | 2 Order to 3,4" ∷
    codes "6 hear 3 1 : kept" ∷
    codes "7 hear 3 2 : stored 2" ∷
    codes "8 hear 4 2 : stored 2" ∷
    codes "9 done 3 2 : unknown" ∷
    codes "10 done 2 1 : unknown" ∷
    codes "11 hear 2 1 : again" ∷
    codes "12 take 2 : took 1 view 1.2 2,3,4" ∷
    codes "13 hear 2 1 : again" ∷
    codes "14 tick 1 : idle" ∷
    codes "15 state 1 : stranger" ∷
    codes "16 send 4 fba5627c9b : queued 2 | 3 Spread to 2,3" ∷
    codes "17 hear 3 3 : kept" ∷
    codes "18 hear 2 3 : held 0 2 | 4 Accept to 3,4 | 5 Hold to 4" ∷
    codes "19 hear 1 7 : no-packet" ∷
    codes "20 join 2 : joined 1" ∷
    codes "21 hear 3 4 : known | 6 Ack to 2" ∷
    codes "22 hear 2 1 : again" ∷
    codes "23 hear 2 3 : held 0 2 | 7 Accept to 3,4 | 8 Hold to 4" ∷
    codes "24 send 2 f7d0e8dcc99927d508846c8e6703e6965aa727f8585ee27e6bb5791d5d5e5ac4d4171da52cebe88d : queued 1" ∷
    codes "25 tick 3 : ticked | 9 Ack to 2" ∷
    codes "26 hear 4 4 : known | 10 Ack to 2" ∷
    codes "27 tick 2 : put-off 1 0 2 | 11 Accept to 3,4" ∷
    codes "28 hear 2 10 : noted" ∷
    codes "29 hear 2 3 : held 0 2 | 12 Accept to 3,4 | 13 Hold to 4" ∷
    codes "30 hear 3 7 : known | 14 Ack to 2" ∷
    codes "group 1 view 1.2 2,3,4" ∷
    codes "group 2 data 4 1 5e" ∷
    codes "log 2 1 view 1.2 2,3,4" ∷
    codes "log 3 1 view 1.2 2,3,4" ∷
    codes "log 4 empty" ∷
    codes "lawful" ∷
    [])
