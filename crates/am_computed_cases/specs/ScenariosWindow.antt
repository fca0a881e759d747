-- Scripts and their texts. Written by tools/rows.py from cases/scenarios_window.
use Rattle.std.specs.Prelude.{◌≡◌, [], ◌∷◌, ◌++◌, codes}
use Rattle.am_group.specs.declared.event.Act.TheVariants as act
use Rattle.am_group_defs.specs.Play.{play_text_of}
use Rattle.am_computed_cases.specs.Scripts.{rules_with, on, lines}

abbrev pub Window1 : Type 0
Window1 = play_text_of (rules_with (0 ∷ 1 ∷ 2 ∷ 3 ∷ []) 2 2 256) (
    on 0 (act.Done 4) ∷ on 0 act.Take ∷ on 2 (act.Done 2) ∷ on 3 (act.Done 2) ∷ on 0 act.Take ∷ on 0 act.Take ∷ on 0 (act.Done 1) ∷ on 1 act.Take ∷
    on 2 (act.Send []) ∷ on 0 (act.Hear 1) ∷ on 2 (act.Hear 2) ∷ on 0 (act.Hear 3) ∷ on 0 act.Take ∷ on 3 (act.Hear 2) ∷ on 1 (act.Hear 2) ∷
    []) ≡ lines (
    codes "1 done 0 4 : unknown" ∷
    codes "2 take 0 : took 1 view 1.0 0,1,2,3" ∷
    codes "3 done 2 2 : unknown" ∷
    codes "4 done 3 2 : unknown" ∷
    codes "5 take 0 : empty" ∷
    codes "6 take 0 : empty" ∷
    codes "7 done 0 1 : unknown" ∷
    codes "8 take 1 : took 1 view 1.0 0,1,2,3" ∷
    codes "9 send 2 - : queued 1 | 1 Request to 0" ∷
    codes "10 hear 0 1 : numbered 2 | 2 Bcast to 1,2,3" ∷
    codes "11 hear 2 2 : stored 2 | 3 Ack to 0" ∷
    codes "12 hear 0 3 : noted" ∷
    codes "13 take 0 : empty" ∷
    codes "14 hear 3 2 : stored 2" ∷
    codes "15 hear 1 2 : stored 2 | 4 Ack to 0" ∷
    codes "group 1 view 1.0 0,1,2,3" ∷
    codes "log 0 1 view 1.0 0,1,2,3" ∷
    codes "log 1 1 view 1.0 0,1,2,3" ∷
    codes "log 2 empty" ∷
    codes "log 3 empty" ∷
    codes "lawful" ∷
    [])

abbrev pub Window10 : Type 0
Window10 = play_text_of (rules_with (0 ∷ 1 ∷ 2 ∷ 3 ∷ 4 ∷ 5 ∷ []) 3 2 4) (
    on 3 act.Take ∷ on 4 act.Take ∷
    on 4 (act.Send (224 ∷ 54 ∷ 96 ∷ 29 ∷ 240 ∷ 150 ∷ 180 ∷ 74 ∷ 9 ∷ 73 ∷ 121 ∷ 61 ∷ 179 ∷ 49 ∷ 34 ∷ 72 ∷ 179 ∷ 54 ∷ 177 ∷ 232 ∷ 205 ∷ 43 ∷ 148 ∷ 80 ∷
    60 ∷ 100 ∷ 108 ∷ 82 ∷ 59 ∷ 45 ∷ 61 ∷ 2 ∷ 33 ∷ 134 ∷ 85 ∷ 243 ∷ 196 ∷ 143 ∷ 146 ∷ 226 ∷ 209 ∷ 158 ∷ 120 ∷ 92 ∷ 207 ∷ 58 ∷ 172 ∷ 116 ∷ 224 ∷ 162 ∷
    166 ∷ 11 ∷ 168 ∷ 254 ∷ 3 ∷ 138 ∷ 100 ∷ 99 ∷ 52 ∷ 61 ∷ 41 ∷ 69 ∷ 165 ∷ 82 ∷ 91 ∷ 183 ∷ 115 ∷ 9 ∷ 33 ∷ 145 ∷ 2 ∷ 96 ∷ 212 ∷ 157 ∷ 193 ∷ 36 ∷ 242 ∷ 2
    ∷ 220 ∷ 157 ∷ 55 ∷ 83 ∷ 39 ∷ 234 ∷ 29 ∷ 114 ∷ 249 ∷ 10 ∷ 64 ∷ 84 ∷ 180 ∷ 62 ∷ 80 ∷ 184 ∷ 132 ∷ 162 ∷ 100 ∷ 59 ∷ 161 ∷ 163 ∷ 157 ∷ 174 ∷ 34 ∷ 164 ∷
    232 ∷ 196 ∷ 109 ∷ 128 ∷ 193 ∷ 240 ∷ 95 ∷ 219 ∷ 247 ∷ 103 ∷ 170 ∷ 33 ∷ 26 ∷ 169 ∷ 52 ∷ 77 ∷ 28 ∷ 143 ∷ 240 ∷ 244 ∷ 219 ∷ 149 ∷ 240 ∷ 49 ∷ 83 ∷ 42 ∷
    70 ∷ 6 ∷ 24 ∷ 176 ∷ 101 ∷ 101 ∷ 167 ∷ 51 ∷ 130 ∷ 126 ∷ 71 ∷ 204 ∷ 171 ∷ 14 ∷ 238 ∷ 234 ∷ 255 ∷ 179 ∷ 220 ∷ 77 ∷ 69 ∷ 3 ∷ 143 ∷ 11 ∷ 157 ∷ 250 ∷ 74
    ∷ 153 ∷ 183 ∷ 158 ∷ 69 ∷ 88 ∷ 56 ∷ 148 ∷ 162 ∷ 227 ∷ 24 ∷ 141 ∷ 179 ∷ 211 ∷ 14 ∷ 176 ∷ 220 ∷ 170 ∷ 6 ∷ 57 ∷ 252 ∷ 173 ∷ 223 ∷ 28 ∷ 192 ∷ 86 ∷ 245
    ∷ 188 ∷ 26 ∷ 47 ∷ 156 ∷ 218 ∷ 166 ∷ 60 ∷ 105 ∷ 170 ∷ 90 ∷ 136 ∷ 232 ∷ 224 ∷ 69 ∷ 9 ∷ 10 ∷ 177 ∷ 169 ∷ 248 ∷ 135 ∷ 93 ∷ 194 ∷ 247 ∷ 125 ∷ 138 ∷ 43
    ∷ 228 ∷ 143 ∷ 129 ∷ 54 ∷ 211 ∷ 7 ∷ 101 ∷ 96 ∷ 151 ∷ 89 ∷ 30 ∷ 118 ∷ 207 ∷ 119 ∷ 204 ∷ 127 ∷ 156 ∷ 183 ∷ 249 ∷ 107 ∷ 173 ∷ 121 ∷ 94 ∷ 24 ∷ 218 ∷
    112 ∷ 67 ∷ 57 ∷ 13 ∷ 8 ∷ 172 ∷ 124 ∷ 89 ∷ 48 ∷ 235 ∷ 138 ∷ 222 ∷ 113 ∷ 38 ∷ 48 ∷ 150 ∷ 239 ∷ 155 ∷ 80 ∷ 218 ∷ 223 ∷ 51 ∷ [])) ∷
    on 2 (act.Hear 1) ∷ on 3 act.Take ∷ on 3 (act.Hear 1) ∷ on 1 (act.Hear 1) ∷ on 2 (act.Send []) ∷ on 0 (act.Hear 1) ∷ on 3 (act.Hear 3) ∷
    on 5 (act.Hear 1) ∷ on 3 act.Take ∷ on 0 (act.Hear 1) ∷ on 2 act.Take ∷ on 1 (act.Hear 3) ∷ on 5 (act.Hear 1) ∷ on 5 (act.Hear 1) ∷ on 5 act.Take
    ∷
    on 0 (act.Send (95 ∷ 75 ∷ 55 ∷ 253 ∷ 205 ∷ 197 ∷ 100 ∷ 106 ∷ 173 ∷ 9 ∷ 74 ∷ 199 ∷ 144 ∷ 231 ∷ 150 ∷ 148 ∷ 63 ∷ 209 ∷ 139 ∷ 226 ∷ 250 ∷ 172 ∷ 192 ∷
    221 ∷ 192 ∷ 173 ∷ 151 ∷ 119 ∷ 76 ∷ 255 ∷ 176 ∷ 96 ∷ 164 ∷ 99 ∷ 231 ∷ 10 ∷ 36 ∷ 107 ∷ 78 ∷ 105 ∷ [])) ∷
    on 0 (act.Hear 2) ∷ on 0 act.Take ∷ on 1 (act.Hear 6) ∷ on 2 (act.Hear 3) ∷ on 0 (act.Hear 4) ∷ on 3 (act.Send (217 ∷ 245 ∷ 151 ∷ 243 ∷ 185 ∷ []))
    ∷
    on 5 (act.Send (113 ∷ 39 ∷ 243 ∷ 54 ∷ 57 ∷ [])) ∷ on 0 (act.Hear 1) ∷ on 4 (act.Hear 3) ∷ on 4 (act.Done 1) ∷ on 4 (act.Hear 6) ∷
    []) ≡ lines (
    codes "1 take 3 : took 1 view 1.0 0,1,2,3,4,5" ∷
    codes "2 take 4 : took 1 view 1.0 0,1,2,3,4,5" ∷
    (codes "3 send 4 e036601df096b44a0949793db3312248b336b1e8cd2b94503c646c523b2d3d02218655f3c48f92e2d19e785ccf3aac74e0a2a60ba8fe038"
    ++ codes "a6463343d2945a5525bb7730921910260d49dc124f202dc9d375327ea1d72f90a4054b43e50b884a2643ba1a39dae22a4e8c46d80c1f05fdbf767aa2"
    ++ codes "11aa9344d1c8ff0f4db95f031532a460618b06565a733827e47ccab0eeeeaffb3dc4d45038f0b9dfa4a99b79e45583894a2e3188db3d30eb0dcaa063"
    ++ codes "9fcaddf1cc056f5bc1a2f9cdaa63c69aa5a88e8e045090ab1a9f8875dc2f77d8a2be48f8136d307656097591e76cf77cc7f9cb7f96bad795e18da704"
    ++ codes "3390d08ac7c5930eb8ade71263096ef9b50dadf33 : queued 1 | 1 Spread to 0,1,2,3,5") ∷
    codes "4 hear 2 1 : kept" ∷
    codes "5 take 3 : empty" ∷
    codes "6 hear 3 1 : kept" ∷
    codes "7 hear 1 1 : kept" ∷
    codes "8 send 2 - : queued 1 | 2 Request to 0" ∷
    codes "9 hear 0 1 : numbered 2 | 3 Order to 1,2,3,4,5" ∷
    codes "10 hear 3 3 : stored 2 | 4 Ack to 0" ∷
    codes "11 hear 5 1 : kept" ∷
    codes "12 take 3 : empty" ∷
    codes "13 hear 0 1 : again" ∷
    codes "14 take 2 : took 1 view 1.0 0,1,2,3,4,5" ∷
    codes "15 hear 1 3 : stored 2 | 5 Ack to 0" ∷
    codes "16 hear 5 1 : known" ∷
    codes "17 hear 5 1 : known" ∷
    codes "18 take 5 : took 1 view 1.0 0,1,2,3,4,5" ∷
    codes "19 send 0 5f4b37fdcdc5646aad094ac790e796943fd18be2faacc0ddc0ad97774cffb060a463e70a246b4e69 : queued 1" ∷
    codes "20 hear 0 2 : held 0 2 | 6 Accept to 1,2,3,4,5 | 7 Hold to 2" ∷
    codes "21 take 0 : took 1 view 1.0 0,1,2,3,4,5" ∷
    codes "22 hear 1 6 : known | 8 Ack to 0" ∷
    codes "23 hear 2 3 : stored 2 | 9 Ack to 0" ∷
    codes "24 hear 0 4 : noted" ∷
    codes "25 send 3 d9f597f3b9 : queued 1 | 10 Spread to 0,1,2,4,5" ∷
    codes "26 send 5 7127f33639 : queued 1 | 11 Spread to 0,1,2,3,4" ∷
    codes "27 hear 0 1 : again" ∷
    codes "28 hear 4 3 : stored 2" ∷
    codes "29 done 4 1 : pending 1" ∷
    codes "30 hear 4 6 : known | 12 Ack to 0" ∷
    codes "group 1 view 1.0 0,1,2,3,4,5" ∷
    codes "log 0 1 view 1.0 0,1,2,3,4,5" ∷
    codes "log 1 empty" ∷
    codes "log 2 1 view 1.0 0,1,2,3,4,5" ∷
    codes "log 3 1 view 1.0 0,1,2,3,4,5" ∷
    codes "log 4 1 view 1.0 0,1,2,3,4,5" ∷
    codes "log 5 1 view 1.0 0,1,2,3,4,5" ∷
    codes "lawful" ∷
    [])

abbrev pub Window2 : Type 0
Window2 = play_text_of (rules_with (0 ∷ 1 ∷ 2 ∷ 3 ∷ 4 ∷ []) 1 16 0) (
    on 4 act.Tick ∷ on 1 act.Tick ∷ on 0 (act.Hear 2) ∷ on 1 act.Tick ∷ on 2 act.Tick ∷ on 3 (act.Done 1) ∷ on 2 (act.Done 1) ∷ on 1 act.Tick ∷
    on 0 act.Tick ∷ on 3 (act.Hear 6) ∷ on 2 (act.Hear 6) ∷ on 1 act.Take ∷ on 3 act.Tick ∷ on 4 (act.Hear 6) ∷ on 4 act.Tick ∷
    []) ≡ lines (
    codes "1 tick 4 : ticked | 1 Ack to 0" ∷
    codes "2 tick 1 : ticked | 2 Ack to 0" ∷
    codes "3 hear 0 2 : noted" ∷
    codes "4 tick 1 : ticked | 3 Ack to 0" ∷
    codes "5 tick 2 : ticked | 4 Ack to 0" ∷
    codes "6 done 3 1 : unknown" ∷
    codes "7 done 2 1 : unknown" ∷
    codes "8 tick 1 : ticked | 5 Ack to 0" ∷
    codes "9 tick 0 : ticked | 6 Accept to 1,2,3,4" ∷
    codes "10 hear 3 6 : known | 7 Ack to 0" ∷
    codes "11 hear 2 6 : known | 8 Ack to 0" ∷
    codes "12 take 1 : took 1 view 1.0 0,1,2,3,4" ∷
    codes "13 tick 3 : ticked | 9 Ack to 0" ∷
    codes "14 hear 4 6 : known | 10 Ack to 0" ∷
    codes "15 tick 4 : ticked | 11 Ack to 0" ∷
    codes "group 1 view 1.0 0,1,2,3,4" ∷
    codes "log 0 empty" ∷
    codes "log 1 1 view 1.0 0,1,2,3,4" ∷
    codes "log 2 empty" ∷
    codes "log 3 empty" ∷
    codes "log 4 empty" ∷
    codes "lawful" ∷
    [])

abbrev pub Window3 : Type 0
Window3 = play_text_of (rules_with (0 ∷ 1 ∷ 2 ∷ []) 0 1 0) (
    on 1 act.Take ∷ on 0 (act.Send (213 ∷ 224 ∷ 230 ∷ 54 ∷ 174 ∷ [])) ∷ on 1 act.Take ∷ on 1 act.Take ∷
    on 2 (act.Send (113 ∷ 55 ∷ 207 ∷ 168 ∷ 13 ∷ [])) ∷ on 1 (act.Send (64 ∷ 142 ∷ [])) ∷ on 1 (act.Done 1) ∷ on 1 act.Take ∷ on 0 (act.Hear 2) ∷
    on 0 (act.Send (85 ∷ 206 ∷ 33 ∷ 113 ∷ 251 ∷ 18 ∷ 161 ∷ 19 ∷ 100 ∷ 252 ∷ 8 ∷ 218 ∷ 218 ∷ 110 ∷ 95 ∷ 191 ∷ 118 ∷ 66 ∷ 10 ∷ 202 ∷ 229 ∷ 92 ∷ 38 ∷ 230
    ∷ 76 ∷ 148 ∷ 218 ∷ 146 ∷ 23 ∷ 237 ∷ 168 ∷ 220 ∷ 72 ∷ 115 ∷ 85 ∷ 215 ∷ 111 ∷ 201 ∷ 9 ∷ 233 ∷ [])) ∷
    on 2 (act.Hear 3) ∷ on 1 act.Take ∷ on 1 act.Take ∷ on 1 (act.Hear 1) ∷ on 2 (act.Hear 2) ∷
    []) ≡ lines (
    codes "1 take 1 : took 1 view 1.0 0,1,2" ∷
    codes "2 send 0 d5e0e636ae : queued 1" ∷
    codes "3 take 1 : empty" ∷
    codes "4 take 1 : empty" ∷
    codes "5 send 2 7137cfa80d : queued 1 | 1 Spread to 0,1" ∷
    codes "6 send 1 408e : queued 1 | 2 Spread to 0,2" ∷
    codes "7 done 1 1 : pending 1" ∷
    codes "8 take 1 : empty" ∷
    codes "9 hear 0 2 : held 0 1 | 3 Accept to 1,2 | 4 Hold to 1" ∷
    codes "10 send 0 55ce2171fb12a11364fc08dada6e5fbf76420acae55c26e64c94da9217eda8dc487355d76fc909e9 : queued 2" ∷
    codes "11 hear 2 3 : known | 5 Ack to 0" ∷
    codes "12 take 1 : empty" ∷
    codes "13 take 1 : empty" ∷
    codes "14 hear 1 1 : kept" ∷
    codes "15 hear 2 2 : kept" ∷
    codes "group 1 view 1.0 0,1,2" ∷
    codes "log 0 empty" ∷
    codes "log 1 1 view 1.0 0,1,2" ∷
    codes "log 2 empty" ∷
    codes "lawful" ∷
    [])

abbrev pub Window4 : Type 0
Window4 = play_text_of (rules_with (0 ∷ 1 ∷ 2 ∷ []) 1 16 256) (
    on 2 act.Take ∷ on 0 act.Take ∷ on 0 act.Take ∷ on 2 act.Take ∷
    on 2 (act.Send (96 ∷ 242 ∷ 130 ∷ 249 ∷ 195 ∷ 98 ∷ 95 ∷ 124 ∷ 241 ∷ 61 ∷ 208 ∷ 148 ∷ 149 ∷ 230 ∷ 46 ∷ 105 ∷ 243 ∷ 94 ∷ 103 ∷ 144 ∷ 174 ∷ 104 ∷ 170
    ∷ 156 ∷ 88 ∷ 93 ∷ 1 ∷ 137 ∷ 82 ∷ 129 ∷ 9 ∷ 156 ∷ 228 ∷ 202 ∷ 158 ∷ 19 ∷ 85 ∷ 221 ∷ 220 ∷ 212 ∷ [])) ∷
    on 1 act.Take ∷ on 2 (act.Done 5) ∷ on 0 act.Tick ∷ on 1 act.Take ∷ on 0 (act.Hear 1) ∷ on 0 (act.Done 2) ∷ on 0 act.Take ∷ on 2 act.Tick ∷
    on 2 (act.Hear 3) ∷ on 0 act.Take ∷
    []) ≡ lines (
    codes "1 take 2 : took 1 view 1.0 0,1,2" ∷
    codes "2 take 0 : took 1 view 1.0 0,1,2" ∷
    codes "3 take 0 : empty" ∷
    codes "4 take 2 : empty" ∷
    codes "5 send 2 60f282f9c3625f7cf13dd09495e62e69f35e6790ae68aa9c585d01895281099ce4ca9e1355dddcd4 : queued 1 | 1 Request to 0" ∷
    codes "6 take 1 : took 1 view 1.0 0,1,2" ∷
    codes "7 done 2 5 : unknown" ∷
    codes "8 tick 0 : ticked | 2 Accept to 1,2" ∷
    codes "9 take 1 : empty" ∷
    codes "10 hear 0 1 : numbered 2 | 3 Bcast to 1,2" ∷
    codes "11 done 0 2 : unknown" ∷
    codes "12 take 0 : empty" ∷
    codes "13 tick 2 : ticked | 4 Request to 0" ∷
    codes "14 hear 2 3 : stored 2" ∷
    codes "15 take 0 : empty" ∷
    codes "group 1 view 1.0 0,1,2" ∷
    codes "log 0 1 view 1.0 0,1,2" ∷
    codes "log 1 1 view 1.0 0,1,2" ∷
    codes "log 2 1 view 1.0 0,1,2" ∷
    codes "lawful" ∷
    [])

abbrev pub Window5 : Type 0
Window5 = play_text_of (rules_with (0 ∷ 1 ∷ 2 ∷ []) 2 64 4) (
    on 0 (act.Send (37 ∷ [])) ∷ on 0 act.Tick ∷
    on 2 (act.Send (73 ∷ 36 ∷ 63 ∷ 215 ∷ 27 ∷ 166 ∷ 244 ∷ 71 ∷ 220 ∷ 230 ∷ 215 ∷ 198 ∷ 48 ∷ 125 ∷ 154 ∷ 214 ∷ 53 ∷ 193 ∷ 2 ∷ 221 ∷ 11 ∷ 135 ∷ 34 ∷ 235
    ∷ 80 ∷ 13 ∷ 135 ∷ 48 ∷ 110 ∷ 107 ∷ 39 ∷ 195 ∷ 117 ∷ 111 ∷ 194 ∷ 219 ∷ 87 ∷ 151 ∷ 20 ∷ 81 ∷ [])) ∷
    on 2 (act.Hear 1) ∷ on 0 (act.Hear 3) ∷ on 1 (act.Done 5) ∷ on 1 (act.Send (119 ∷ [])) ∷ on 1 (act.Hear 1) ∷ on 2 (act.Hear 5) ∷ on 1 act.Tick ∷
    on 1 (act.Hear 2) ∷ on 0 (act.Hear 3) ∷ on 1 (act.Done 1) ∷ on 1 (act.Hear 3) ∷ on 2 (act.Hear 2) ∷
    []) ≡ lines (
    codes "1 send 0 25 : queued 1 | 1 Bcast to 1,2" ∷
    codes "2 tick 0 : ticked | 2 Accept to 1,2" ∷
    codes "3 send 2 49243fd71ba6f447dce6d7c6307d9ad635c102dd0b8722eb500d87306e6b27c3756fc2db57971451 : queued 1 | 3 Spread to 0,1" ∷
    codes "4 hear 2 1 : stored 2 | 4 Ack to 0" ∷
    codes "5 hear 0 3 : numbered 3 | 5 Order to 1,2" ∷
    codes "6 done 1 5 : unknown" ∷
    codes "7 send 1 77 : queued 1 | 6 Request to 0" ∷
    codes "8 hear 1 1 : stored 2 | 7 Ack to 0" ∷
    codes "9 hear 2 5 : stored 3 | 8 Ack to 0" ∷
    codes "10 tick 1 : ticked | 9 Request to 0" ∷
    codes "11 hear 1 2 : known | 10 Ack to 0" ∷
    codes "12 hear 0 3 : again" ∷
    codes "13 done 1 1 : pending 1" ∷
    codes "14 hear 1 3 : kept" ∷
    codes "15 hear 2 2 : known | 11 Ack to 0" ∷
    codes "group 1 view 1.0 0,1,2" ∷
    codes "log 0 empty" ∷
    codes "log 1 empty" ∷
    codes "log 2 empty" ∷
    codes "lawful" ∷
    [])

abbrev pub Window6 : Type 0
Window6 = play_text_of (rules_with (0 ∷ 1 ∷ []) 0 16 0) (
    on 1 (act.Send (41 ∷ [])) ∷ on 1 (act.Done 1) ∷ on 0 (act.Hear 1) ∷ on 0 (act.Hear 1) ∷ on 1 (act.Hear 2) ∷ on 1 act.Tick ∷ on 0 (act.Hear 1) ∷
    on 0 (act.Send (35 ∷ 34 ∷ [])) ∷ on 0 (act.Send (43 ∷ 129 ∷ 190 ∷ 188 ∷ 234 ∷ [])) ∷ on 0 (act.Hear 3) ∷ on 1 (act.Hear 5) ∷ on 0 act.Take ∷
    on 0 (act.Hear 6) ∷
    on 0 (act.Send (179 ∷ 233 ∷ 30 ∷ 196 ∷ 65 ∷ 31 ∷ 74 ∷ 109 ∷ 77 ∷ 184 ∷ 232 ∷ 64 ∷ 224 ∷ 151 ∷ 121 ∷ 160 ∷ 51 ∷ 189 ∷ 62 ∷ 105 ∷ 245 ∷ 225 ∷ 64 ∷
    209 ∷ 195 ∷ 17 ∷ 44 ∷ 26 ∷ 225 ∷ 55 ∷ 41 ∷ 83 ∷ 22 ∷ 171 ∷ 191 ∷ 8 ∷ 143 ∷ 129 ∷ 120 ∷ 249 ∷ [])) ∷
    on 0 (act.Done 1) ∷
    []) ≡ lines (
    codes "1 send 1 29 : queued 1 | 1 Spread to 0" ∷
    codes "2 done 1 1 : pending 1" ∷
    codes "3 hear 0 1 : numbered 2 | 2 Order to 1" ∷
    codes "4 hear 0 1 : again" ∷
    codes "5 hear 1 2 : stored 2" ∷
    codes "6 tick 1 : ticked | 3 Ack to 0" ∷
    codes "7 hear 0 1 : again" ∷
    codes "8 send 0 2322 : queued 1 | 4 Bcast to 1" ∷
    codes "9 send 0 2b81bebcea : queued 2 | 5 Bcast to 1" ∷
    codes "10 hear 0 3 : noted" ∷
    codes "11 hear 1 5 : gap 3 | 6 Nack to 0" ∷
    codes "12 take 0 : took 1 view 1.0 0,1" ∷
    codes "13 hear 0 6 : served 2 | 7 Bcast to 1 | 8 Bcast to 1" ∷
    codes "14 send 0 b3e91ec4411f4a6d4db8e840e09779a033bd3e69f5e140d1c3112c1ae137295316abbf088f8178f9 : queued 3 | 9 Bcast to 1" ∷
    codes "15 done 0 1 : sent 1 3" ∷
    codes "group 1 view 1.0 0,1" ∷
    codes "group 2 data 1 1 29" ∷
    codes "group 3 data 0 1 2322" ∷
    codes "group 4 data 0 2 2b81bebcea" ∷
    codes "group 5 data 0 3 b3e91ec4411f4a6d4db8e840e09779a033bd3e69f5e140d1c3112c1ae137295316abbf088f8178f9" ∷
    codes "log 0 1 view 1.0 0,1" ∷
    codes "log 1 empty" ∷
    codes "lawful" ∷
    [])

abbrev pub Window7 : Type 0
Window7 = play_text_of (rules_with (0 ∷ 1 ∷ 2 ∷ 3 ∷ []) 0 16 4) (
    on 0 act.Tick ∷ on 1 (act.Hear 1) ∷ on 2 (act.Hear 1) ∷ on 3 (act.Hear 1) ∷ on 0 act.Take ∷ on 0 (act.Hear 2) ∷ on 0 act.Take ∷ on 1 (act.Hear 1)
    ∷
    on 0 (act.Hear 3) ∷ on 1 (act.Hear 1) ∷ on 0 (act.Hear 4) ∷ on 1 (act.Hear 1) ∷ on 0 (act.Hear 5) ∷ on 2 (act.Hear 1) ∷ on 0 act.Take ∷
    on 1 act.Tick ∷ on 2 (act.Done 5) ∷ on 0 (act.Hear 6) ∷ on 2 (act.Hear 1) ∷ on 2 act.Take ∷ on 1 (act.Hear 1) ∷ on 3 (act.Hear 1) ∷
    on 2 (act.Hear 1) ∷ on 3 act.Tick ∷ on 0 (act.Hear 7) ∷ on 1 (act.Hear 1) ∷ on 0 (act.Hear 8) ∷ on 3 (act.Hear 1) ∷ on 0 act.Take ∷
    on 0 (act.Hear 9) ∷
    []) ≡ lines (
    codes "1 tick 0 : ticked | 1 Accept to 1,2,3" ∷
    codes "2 hear 1 1 : known | 2 Ack to 0" ∷
    codes "3 hear 2 1 : known | 3 Ack to 0" ∷
    codes "4 hear 3 1 : known | 4 Ack to 0" ∷
    codes "5 take 0 : took 1 view 1.0 0,1,2,3" ∷
    codes "6 hear 0 2 : noted" ∷
    codes "7 take 0 : empty" ∷
    codes "8 hear 1 1 : known | 5 Ack to 0" ∷
    codes "9 hear 0 3 : noted" ∷
    codes "10 hear 1 1 : known | 6 Ack to 0" ∷
    codes "11 hear 0 4 : noted" ∷
    codes "12 hear 1 1 : known | 7 Ack to 0" ∷
    codes "13 hear 0 5 : noted" ∷
    codes "14 hear 2 1 : known | 8 Ack to 0" ∷
    codes "15 take 0 : empty" ∷
    codes "16 tick 1 : ticked | 9 Ack to 0" ∷
    codes "17 done 2 5 : unknown" ∷
    codes "18 hear 0 6 : noted" ∷
    codes "19 hear 2 1 : known | 10 Ack to 0" ∷
    codes "20 take 2 : took 1 view 1.0 0,1,2,3" ∷
    codes "21 hear 1 1 : known | 11 Ack to 0" ∷
    codes "22 hear 3 1 : known | 12 Ack to 0" ∷
    codes "23 hear 2 1 : known | 13 Ack to 0" ∷
    codes "24 tick 3 : ticked | 14 Ack to 0" ∷
    codes "25 hear 0 7 : noted" ∷
    codes "26 hear 1 1 : known | 15 Ack to 0" ∷
    codes "27 hear 0 8 : noted" ∷
    codes "28 hear 3 1 : known | 16 Ack to 0" ∷
    codes "29 take 0 : empty" ∷
    codes "30 hear 0 9 : noted" ∷
    codes "group 1 view 1.0 0,1,2,3" ∷
    codes "log 0 1 view 1.0 0,1,2,3" ∷
    codes "log 1 empty" ∷
    codes "log 2 1 view 1.0 0,1,2,3" ∷
    codes "log 3 empty" ∷
    codes "lawful" ∷
    [])

abbrev pub Window8 : Type 0
Window8 = play_text_of (rules_with (0 ∷ 1 ∷ 2 ∷ []) 1 1 4) (
    on 2 (act.Send (17 ∷ 73 ∷ 130 ∷ 139 ∷ 193 ∷ 188 ∷ 168 ∷ 28 ∷ 48 ∷ 250 ∷ 219 ∷ 140 ∷ 196 ∷ 147 ∷ 193 ∷ 242 ∷ 157 ∷ 89 ∷ 74 ∷ 79 ∷ 38 ∷ 17 ∷ 35 ∷
    132 ∷ 222 ∷ 188 ∷ 100 ∷ 34 ∷ 184 ∷ 219 ∷ 7 ∷ 15 ∷ 76 ∷ 92 ∷ 27 ∷ 79 ∷ 46 ∷ 86 ∷ 186 ∷ 182 ∷ 241 ∷ 189 ∷ 39 ∷ 211 ∷ 100 ∷ 104 ∷ 45 ∷ 135 ∷ 246 ∷
    224 ∷ 60 ∷ 128 ∷ 116 ∷ 134 ∷ 244 ∷ 229 ∷ 133 ∷ 212 ∷ 216 ∷ 129 ∷ 114 ∷ 152 ∷ 161 ∷ 35 ∷ 71 ∷ 194 ∷ 207 ∷ 35 ∷ 79 ∷ 189 ∷ 150 ∷ 162 ∷ 54 ∷ 7 ∷ 67 ∷
    22 ∷ 137 ∷ 155 ∷ 66 ∷ 100 ∷ 233 ∷ 126 ∷ 151 ∷ 120 ∷ 250 ∷ 25 ∷ 250 ∷ 227 ∷ 166 ∷ 251 ∷ 78 ∷ 191 ∷ 138 ∷ 176 ∷ 218 ∷ 12 ∷ 51 ∷ 11 ∷ 58 ∷ 100 ∷ 247
    ∷ 253 ∷ 191 ∷ 177 ∷ 200 ∷ 139 ∷ 157 ∷ 116 ∷ 68 ∷ 211 ∷ 193 ∷ 186 ∷ 245 ∷ 233 ∷ 214 ∷ 127 ∷ 5 ∷ 123 ∷ 205 ∷ 196 ∷ 20 ∷ 20 ∷ 8 ∷ 44 ∷ 171 ∷ 17 ∷ 127
    ∷ 7 ∷ 36 ∷ 115 ∷ 210 ∷ 4 ∷ 171 ∷ 52 ∷ 61 ∷ 23 ∷ 3 ∷ 104 ∷ 213 ∷ 62 ∷ 140 ∷ 216 ∷ 87 ∷ 79 ∷ 92 ∷ 183 ∷ 37 ∷ 209 ∷ 178 ∷ 16 ∷ 173 ∷ 151 ∷ 95 ∷ 187 ∷
    7 ∷ 25 ∷ 76 ∷ 69 ∷ 96 ∷ 36 ∷ 197 ∷ 247 ∷ 165 ∷ 105 ∷ 66 ∷ 111 ∷ 190 ∷ 226 ∷ 212 ∷ 255 ∷ 141 ∷ 244 ∷ 148 ∷ 66 ∷ 39 ∷ 33 ∷ 68 ∷ 154 ∷ 127 ∷ 102 ∷
    242 ∷ 30 ∷ 30 ∷ 199 ∷ 5 ∷ 88 ∷ 238 ∷ 220 ∷ 255 ∷ 126 ∷ 81 ∷ 223 ∷ 0 ∷ 30 ∷ 119 ∷ 136 ∷ 214 ∷ 214 ∷ 83 ∷ 204 ∷ 254 ∷ 90 ∷ 166 ∷ 141 ∷ 210 ∷ 130 ∷
    89 ∷ 128 ∷ 204 ∷ 42 ∷ 183 ∷ 95 ∷ 129 ∷ 73 ∷ 231 ∷ 98 ∷ 229 ∷ 116 ∷ 218 ∷ 79 ∷ 253 ∷ 185 ∷ 76 ∷ 70 ∷ 187 ∷ 106 ∷ 96 ∷ 22 ∷ 155 ∷ 9 ∷ 65 ∷ 228 ∷ 151
    ∷ 107 ∷ 106 ∷ 93 ∷ 23 ∷ 124 ∷ 199 ∷ 139 ∷ 160 ∷ 1 ∷ 213 ∷ 197 ∷ 43 ∷ 107 ∷ 68 ∷ 215 ∷ 250 ∷ 135 ∷ 50 ∷ 212 ∷ 88 ∷ 84 ∷ 215 ∷ 152 ∷ [])) ∷
    on 1 act.Tick ∷ on 1 act.Tick ∷ on 0 (act.Send (92 ∷ [])) ∷ on 2 act.Tick ∷ on 1 (act.Send []) ∷ on 2 act.Tick ∷ on 1 act.Tick ∷
    on 1 (act.Send []) ∷ on 2 act.Tick ∷ on 0 (act.Send []) ∷ on 0 (act.Done 1) ∷ on 0 act.Tick ∷ on 2 (act.Hear 9) ∷ on 1 act.Tick ∷
    []) ≡ lines (
    (codes "1 send 2 1149828bc1bca81c30fadb8cc493c1f29d594a4f26112384debc6422b8db070f4c5c1b4f2e56bab6f1bd27d364682d87f6e03c807486f4e"
    ++ codes "585d4d8817298a12347c2cf234fbd96a236074316899b4264e97e9778fa19fae3a6fb4ebf8ab0da0c330b3a64f7fdbfb1c88b9d7444d3c1baf5e9d67"
    ++ codes "f057bcdc41414082cab117f072473d204ab343d170368d53e8cd8574f5cb725d1b210ad975fbb07194c456024c5f7a569426fbee2d4ff8df49442272"
    ++ codes "1449a7f66f21e1ec70558eedcff7e51df001e7788d6d653ccfe5aa68dd2825980cc2ab75f8149e762e574da4ffdb94c46bb6a60169b0941e4976b6a5"
    ++ codes "d177cc78ba001d5c52b6b44d7fa8732d45854d798 : queued 1 | 1 Spread to 0,1") ∷
    codes "2 tick 1 : ticked | 2 Ack to 0" ∷
    codes "3 tick 1 : ticked | 3 Ack to 0" ∷
    codes "4 send 0 5c : queued 1" ∷
    codes "5 tick 2 : ticked | 4 Spread to 0,1" ∷
    codes "6 send 1 - : queued 1 | 5 Request to 0" ∷
    codes "7 tick 2 : ticked | 6 Spread to 0,1" ∷
    codes "8 tick 1 : ticked | 7 Request to 0" ∷
    codes "9 send 1 - : queued 2" ∷
    codes "10 tick 2 : ticked | 8 Spread to 0,1" ∷
    codes "11 send 0 - : queued 2" ∷
    codes "12 done 0 1 : pending 1" ∷
    codes "13 tick 0 : put-off 1 0 1 | 9 Accept to 1,2" ∷
    codes "14 hear 2 9 : known | 10 Ack to 0" ∷
    codes "15 tick 1 : ticked | 11 Request to 0" ∷
    codes "group 1 view 1.0 0,1,2" ∷
    codes "log 0 empty" ∷
    codes "log 1 empty" ∷
    codes "log 2 empty" ∷
    codes "lawful" ∷
    [])

abbrev pub Window9 : Type 0
Window9 = play_text_of (rules_with (0 ∷ 1 ∷ 2 ∷ 3 ∷ 4 ∷ []) 3 2 0) (
    on 0 act.Tick ∷ on 3 act.Tick ∷ on 0 (act.Hear 2) ∷ on 1 act.Take ∷ on 3 act.Take ∷ on 1 (act.Done 1) ∷ on 2 (act.Hear 1) ∷ on 3 act.Take ∷
    on 1 act.Take ∷ on 3 (act.Hear 1) ∷ on 2 act.Take ∷ on 0 (act.Hear 3) ∷ on 3 act.Take ∷ on 2 (act.Send (31 ∷ [])) ∷ on 0 act.Take ∷
    on 2 (act.Done 1) ∷ on 4 (act.Hear 1) ∷ on 4 act.Take ∷ on 4 act.Take ∷ on 4 act.Take ∷ on 0 act.Take ∷ on 2 act.Take ∷ on 2 (act.Done 5) ∷
    on 4 (act.Hear 5) ∷ on 4 act.Take ∷ on 3 (act.Hear 5) ∷ on 1 (act.Hear 1) ∷ on 1 act.Take ∷ on 3 (act.Send (220 ∷ 206 ∷ [])) ∷ on 3 act.Take ∷
    on 4 act.Take ∷ on 2 (act.Hear 8) ∷ on 1 act.Take ∷ on 3 (act.Done 1) ∷ on 1 act.Take ∷ on 4 act.Take ∷ on 1 act.Take ∷ on 4 act.Take ∷
    on 0 act.Take ∷ on 0 (act.Hear 4) ∷ on 4 (act.Hear 8) ∷ on 0 act.Tick ∷ on 2 (act.Hear 9) ∷ on 0 act.Take ∷ on 1 (act.Done 2) ∷ on 1 (act.Done 3)
    ∷
    on 4 (act.Hear 9) ∷ on 0 act.Take ∷ on 4 act.Take ∷ on 4 act.Take ∷ on 0 (act.Done 1) ∷ on 0 (act.Hear 5) ∷ on 3 act.Take ∷ on 2 act.Take ∷
    on 3 act.Take ∷ on 2 (act.Hear 12) ∷ on 1 (act.Done 4) ∷ on 3 act.Take ∷ on 1 act.Take ∷ on 4 (act.Done 2) ∷
    []) ≡ lines (
    codes "1 tick 0 : ticked | 1 Accept to 1,2,3,4" ∷
    codes "2 tick 3 : ticked | 2 Ack to 0" ∷
    codes "3 hear 0 2 : noted" ∷
    codes "4 take 1 : took 1 view 1.0 0,1,2,3,4" ∷
    codes "5 take 3 : took 1 view 1.0 0,1,2,3,4" ∷
    codes "6 done 1 1 : unknown" ∷
    codes "7 hear 2 1 : known | 3 Ack to 0" ∷
    codes "8 take 3 : empty" ∷
    codes "9 take 1 : empty" ∷
    codes "10 hear 3 1 : known | 4 Ack to 0" ∷
    codes "11 take 2 : took 1 view 1.0 0,1,2,3,4" ∷
    codes "12 hear 0 3 : noted" ∷
    codes "13 take 3 : empty" ∷
    codes "14 send 2 1f : queued 1 | 5 Spread to 0,1,3,4" ∷
    codes "15 take 0 : took 1 view 1.0 0,1,2,3,4" ∷
    codes "16 done 2 1 : pending 1" ∷
    codes "17 hear 4 1 : known | 6 Ack to 0" ∷
    codes "18 take 4 : took 1 view 1.0 0,1,2,3,4" ∷
    codes "19 take 4 : empty" ∷
    codes "20 take 4 : empty" ∷
    codes "21 take 0 : empty" ∷
    codes "22 take 2 : empty" ∷
    codes "23 done 2 5 : unknown" ∷
    codes "24 hear 4 5 : kept" ∷
    codes "25 take 4 : empty" ∷
    codes "26 hear 3 5 : kept" ∷
    codes "27 hear 1 1 : known | 7 Ack to 0" ∷
    codes "28 take 1 : empty" ∷
    codes "29 send 3 dcce : queued 1 | 8 Spread to 0,1,2,4" ∷
    codes "30 take 3 : empty" ∷
    codes "31 take 4 : empty" ∷
    codes "32 hear 2 8 : kept" ∷
    codes "33 take 1 : empty" ∷
    codes "34 done 3 1 : pending 1" ∷
    codes "35 take 1 : empty" ∷
    codes "36 take 4 : empty" ∷
    codes "37 take 1 : empty" ∷
    codes "38 take 4 : empty" ∷
    codes "39 take 0 : empty" ∷
    codes "40 hear 0 4 : noted" ∷
    codes "41 hear 4 8 : kept" ∷
    codes "42 tick 0 : ticked | 9 Accept to 1,2,3,4" ∷
    codes "43 hear 2 9 : known | 10 Ack to 0" ∷
    codes "44 take 0 : empty" ∷
    codes "45 done 1 2 : unknown" ∷
    codes "46 done 1 3 : unknown" ∷
    codes "47 hear 4 9 : known | 11 Ack to 0" ∷
    codes "48 take 0 : empty" ∷
    codes "49 take 4 : empty" ∷
    codes "50 take 4 : empty" ∷
    codes "51 done 0 1 : unknown" ∷
    codes "52 hear 0 5 : numbered 2 | 12 Order to 1,2,3,4" ∷
    codes "53 take 3 : empty" ∷
    codes "54 take 2 : empty" ∷
    codes "55 take 3 : empty" ∷
    codes "56 hear 2 12 : stored 2 | 13 Ack to 0" ∷
    codes "57 done 1 4 : unknown" ∷
    codes "58 take 3 : empty" ∷
    codes "59 take 1 : empty" ∷
    codes "60 done 4 2 : unknown" ∷
    codes "group 1 view 1.0 0,1,2,3,4" ∷
    codes "log 0 1 view 1.0 0,1,2,3,4" ∷
    codes "log 1 1 view 1.0 0,1,2,3,4" ∷
    codes "log 2 1 view 1.0 0,1,2,3,4" ∷
    codes "log 3 1 view 1.0 0,1,2,3,4" ∷
    codes "log 4 1 view 1.0 0,1,2,3,4" ∷
    codes "lawful" ∷
    [])
