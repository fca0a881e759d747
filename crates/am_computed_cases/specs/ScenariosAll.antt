-- Scripts and their texts. Written by tools/rows.py from cases/scenarios_all.
use Rattle.std.specs.Prelude.{◌≡◌, [], ◌∷◌, ◌++◌, codes}
use Rattle.am_group.specs.declared.event.Act.TheVariants as act
use Rattle.am_group_defs.specs.Play.{play_text_of}
use Rattle.am_computed_cases.specs.Scripts.{rules_with, on, lines}

abbrev pub All1 : Type 0
All1 = play_text_of (rules_with (1 ∷ []) 1 1 0) (
    on 2 (act.Done 3) ∷ on 1 act.Take ∷ on 2 act.Take ∷ on 0 act.Tick ∷ on 0 act.Take ∷ on 2 act.Tick ∷ on 0 (act.Done 1) ∷ on 2 (act.Done 1) ∷
    on 2 (act.Ask 1) ∷ on 1 act.Join ∷ on 2 act.Take ∷ on 2 act.Join ∷ on 1 (act.Cut 1 24) ∷ on 2 (act.Hear 2) ∷ on 2 (act.Hear 2) ∷
    []) ≡ lines (
    codes "1 done 2 3 : unknown" ∷
    codes "2 take 1 : took 1 view 1.1 1" ∷
    codes "3 take 2 : not-member" ∷
    codes "4 tick 0 : idle" ∷
    codes "5 take 0 : not-member" ∷
    codes "6 tick 2 : idle" ∷
    codes "7 done 0 1 : unknown" ∷
    codes "8 done 2 1 : unknown" ∷
    codes "9 ask 2 1 : unknown" ∷
    codes "10 join 1 : joined 1" ∷
    codes "11 take 2 : not-member" ∷
    codes "12 join 2 : asked | 1 JoinAsk to all" ∷
    codes "13 cut 1 1 24 : numbered 2 | 2 Welcome to 2" ∷
    codes "14 hear 2 2 : welcomed 2 | 3 Nack to 1" ∷
    codes "15 hear 2 2 : known" ∷
    codes "group 1 view 1.1 1" ∷
    codes "group 2 join 2" ∷
    codes "log 1 1 view 1.1 1" ∷
    codes "log 2 empty" ∷
    codes "lawful" ∷
    [])

abbrev pub All10 : Type 0
All10 = play_text_of (rules_with (0 ∷ 1 ∷ 2 ∷ []) 1 16 0) (
    on 1 act.Take ∷ on 0 act.Take ∷ on 2 act.Take ∷ on 0 (act.Ask 3) ∷ on 0 act.Leave ∷ on 1 (act.Hear 1) ∷ on 2 (act.Hear 2) ∷ on 0 (act.Hear 2) ∷
    on 1 (act.GiveUp 2) ∷ on 1 (act.GiveUp 2) ∷ on 1 (act.Hear 3) ∷ on 0 act.Take ∷ on 1 (act.Hear 4) ∷ on 0 (act.Cut 5 12) ∷ on 2 (act.Hear 5) ∷
    on 1 (act.Hear 6) ∷ on 2 (act.Hear 7) ∷ on 2 act.Take ∷ on 0 (act.Hear 7) ∷ on 1 act.Join ∷ on 1 act.Join ∷ on 0 act.Take ∷ on 2 act.Take ∷
    on 1 act.Join ∷ on 0 act.Take ∷ on 0 (act.Send []) ∷ on 1 (act.Hear 1) ∷ on 0 (act.Reset 1 1) ∷ on 1 (act.Hear 6) ∷ on 1 act.Tick ∷
    []) ≡ lines (
    codes "1 take 1 : took 1 view 1.0 0,1,2" ∷
    codes "2 take 0 : took 1 view 1.0 0,1,2" ∷
    codes "3 take 2 : took 1 view 1.0 0,1,2" ∷
    codes "4 ask 0 3 : unknown" ∷
    codes "5 leave 0 : asked | 1 HandOver to 1" ∷
    codes "6 hear 1 1 : waiting 0,2 | 2 Invite to 0,2" ∷
    codes "7 hear 2 2 : voted | 3 Vote to 1" ∷
    codes "8 hear 0 2 : voted | 4 Vote to 1" ∷
    codes "9 giveup 1 2 : not-stopped" ∷
    codes "10 giveup 1 2 : not-stopped" ∷
    codes "11 hear 1 3 : waiting 0" ∷
    codes "12 take 0 : empty" ∷
    codes "13 hear 1 4 : decided 2 0,1,2 | 5 Result to 0,2" ∷
    codes "14 cut 0 5 12 : refused 5" ∷
    codes "15 hear 2 5 : stored 2 | 6 Ack to 1" ∷
    codes "16 hear 1 6 : accepted 2 | 7 Accept to 0,2" ∷
    codes "17 hear 2 7 : advanced 2" ∷
    codes "18 take 2 : took 2 view 2.1 0,1,2" ∷
    codes "19 hear 0 7 : elsewhere" ∷
    codes "20 join 1 : joined 1" ∷
    codes "21 join 1 : joined 1" ∷
    codes "22 take 0 : empty" ∷
    codes "23 take 2 : empty" ∷
    codes "24 join 1 : joined 1" ∷
    codes "25 take 0 : empty" ∷
    codes "26 send 0 - : leaving" ∷
    codes "27 hear 1 1 : elsewhere" ∷
    codes "28 reset 0 1 : leaving" ∷
    codes "29 hear 1 6 : noted" ∷
    codes "30 tick 1 : ticked | 8 Accept to 0,2 | 9 Result to 0" ∷
    codes "group 1 view 1.0 0,1,2" ∷
    codes "group 2 view 2.1 0,1,2" ∷
    codes "log 0 1 view 1.0 0,1,2" ∷
    codes "log 1 1 view 1.0 0,1,2" ∷
    codes "log 2 1 view 1.0 0,1,2" ∷
    codes "log 2 2 view 2.1 0,1,2" ∷
    codes "lawful" ∷
    [])

abbrev pub All2 : Type 0
All2 = play_text_of (rules_with (1 ∷ 2 ∷ 3 ∷ 4 ∷ []) 1 64 0) (
    on 2 act.Tick ∷ on 0 act.Tick ∷ on 0 act.Tick ∷ on 1 (act.Hear 1) ∷ on 4 act.Tick ∷ on 3 (act.Send (250 ∷ [])) ∷ on 4 (act.Hear 3) ∷ on 2 act.Join
    ∷
    on 2 act.Tick ∷ on 4 (act.Send (64 ∷ 116 ∷ 145 ∷ 106 ∷ 239 ∷ [])) ∷ on 3 (act.Hear 5) ∷ on 0 act.Tick ∷ on 0 (act.Send (190 ∷ [])) ∷
    on 1 (act.Hear 2) ∷ on 4 (act.Done 1) ∷
    []) ≡ lines (
    codes "1 tick 2 : ticked | 1 Ack to 1" ∷
    codes "2 tick 0 : idle" ∷
    codes "3 tick 0 : idle" ∷
    codes "4 hear 1 1 : noted" ∷
    codes "5 tick 4 : ticked | 2 Ack to 1" ∷
    codes "6 send 3 fa : queued 1 | 3 Spread to 1,2,4" ∷
    codes "7 hear 4 3 : kept" ∷
    codes "8 join 2 : joined 1" ∷
    codes "9 tick 2 : ticked | 4 Ack to 1" ∷
    codes "10 send 4 4074916aef : queued 1 | 5 Spread to 1,2,3" ∷
    codes "11 hear 3 5 : kept" ∷
    codes "12 tick 0 : idle" ∷
    codes "13 send 0 be : not-member" ∷
    codes "14 hear 1 2 : noted" ∷
    codes "15 done 4 1 : pending 1" ∷
    codes "group 1 view 1.1 1,2,3,4" ∷
    codes "log 1 empty" ∷
    codes "log 2 empty" ∷
    codes "log 3 empty" ∷
    codes "log 4 empty" ∷
    codes "lawful" ∷
    [])

abbrev pub All3 : Type 0
All3 = play_text_of (rules_with (0 ∷ 1 ∷ 2 ∷ 3 ∷ []) 0 3 0) (
    on 0 act.Tick ∷ on 0 (act.Hear 1) ∷ on 1 (act.Hear 1) ∷ on 0 act.Join ∷ on 3 (act.Hear 1) ∷ on 0 (act.Ask 2) ∷ on 1 (act.Hear 1) ∷
    on 1 (act.Hear 1) ∷ on 0 (act.Hear 4) ∷ on 1 act.Take ∷ on 2 (act.Done 3) ∷ on 3 act.Join ∷ on 0 (act.Hear 2) ∷ on 2 (act.Hear 1) ∷
    on 0 (act.Hear 4) ∷
    []) ≡ lines (
    codes "1 tick 0 : ticked | 1 Accept to 1,2,3" ∷
    codes "2 hear 0 1 : not-addressed" ∷
    codes "3 hear 1 1 : known | 2 Ack to 0" ∷
    codes "4 join 0 : joined 1" ∷
    codes "5 hear 3 1 : known | 3 Ack to 0" ∷
    codes "6 ask 0 2 : unknown" ∷
    codes "7 hear 1 1 : known | 4 Ack to 0" ∷
    codes "8 hear 1 1 : known | 5 Ack to 0" ∷
    codes "9 hear 0 4 : noted" ∷
    codes "10 take 1 : took 1 view 1.0 0,1,2,3" ∷
    codes "11 done 2 3 : unknown" ∷
    codes "12 join 3 : joined 1" ∷
    codes "13 hear 0 2 : noted" ∷
    codes "14 hear 2 1 : known | 6 Ack to 0" ∷
    codes "15 hear 0 4 : noted" ∷
    codes "group 1 view 1.0 0,1,2,3" ∷
    codes "log 0 empty" ∷
    codes "log 1 1 view 1.0 0,1,2,3" ∷
    codes "log 2 empty" ∷
    codes "log 3 empty" ∷
    codes "lawful" ∷
    [])

abbrev pub All4 : Type 0
All4 = play_text_of (rules_with (0 ∷ 1 ∷ 2 ∷ 3 ∷ []) 0 64 0) (
    on 1 act.State ∷ on 0 (act.Send (210 ∷ [])) ∷ on 1 (act.Hear 1) ∷ on 2 (act.Hear 1) ∷ on 1 (act.Reset 3 0) ∷ on 1 act.Take ∷ on 3 (act.Hear 1) ∷
    on 1 (act.Hear 1) ∷ on 0 (act.Hear 2) ∷ on 3 (act.Hear 2) ∷ on 0 (act.Hear 2) ∷ on 2 act.Leave ∷ on 1 (act.Hear 1) ∷
    on 2 (act.Send (147 ∷ 19 ∷ 129 ∷ 146 ∷ 234 ∷ [])) ∷ on 1 act.Tick ∷
    []) ≡ lines (
    codes "1 state 1 : joined 1" ∷
    codes "2 send 0 d2 : queued 1 | 1 Bcast to 1,2,3" ∷
    codes "3 hear 1 1 : stored 2" ∷
    codes "4 hear 2 1 : stored 2" ∷
    codes "5 reset 1 3 : waiting 0,2,3 | 2 Invite to 0,2,3" ∷
    codes "6 take 1 : took 1 view 1.0 0,1,2,3" ∷
    codes "7 hear 3 1 : stored 2" ∷
    codes "8 hear 1 1 : elsewhere" ∷
    codes "9 hear 0 2 : voted | 3 Vote to 1" ∷
    codes "10 hear 3 2 : voted | 4 Vote to 1" ∷
    codes "11 hear 0 2 : voted | 5 Vote to 1" ∷
    codes "12 leave 2 : asked | 6 LeaveAsk to 0,1,3" ∷
    codes "13 hear 1 1 : elsewhere" ∷
    codes "14 send 2 93138192ea : leaving" ∷
    codes "15 tick 1 : ticked | 7 Invite to 0,2,3" ∷
    codes "group 1 view 1.0 0,1,2,3" ∷
    codes "group 2 data 0 1 d2" ∷
    codes "log 0 empty" ∷
    codes "log 1 1 view 1.0 0,1,2,3" ∷
    codes "log 2 empty" ∷
    codes "log 3 empty" ∷
    codes "lawful" ∷
    [])

abbrev pub All5 : Type 0
All5 = play_text_of (rules_with (0 ∷ 2 ∷ 3 ∷ []) 0 2 0) (
    on 2 act.Tick ∷ on 0 (act.Hear 1) ∷
    on 3 (act.Send (172 ∷ 87 ∷ 48 ∷ 107 ∷ 131 ∷ 108 ∷ 239 ∷ 251 ∷ 143 ∷ 102 ∷ 76 ∷ 1 ∷ 204 ∷ 18 ∷ 248 ∷ 244 ∷ 211 ∷ 188 ∷ 62 ∷ 27 ∷ 94 ∷ 78 ∷ 135 ∷ 46
    ∷ 222 ∷ 214 ∷ 44 ∷ 139 ∷ 252 ∷ 131 ∷ 31 ∷ 3 ∷ 31 ∷ 161 ∷ 64 ∷ 200 ∷ 196 ∷ 220 ∷ 138 ∷ 222 ∷ [])) ∷
    on 2 (act.Hear 2) ∷ on 0 (act.Hear 2) ∷ on 2 (act.Hear 3) ∷ on 1 act.Tick ∷ on 3 (act.Hear 3) ∷ on 2 act.Take ∷ on 0 (act.Ask 4) ∷ on 1 act.Join ∷
    on 3 (act.Hear 4) ∷ on 0 (act.Hear 4) ∷ on 3 (act.Hear 5) ∷ on 3 act.State ∷
    []) ≡ lines (
    codes "1 tick 2 : ticked | 1 Ack to 0" ∷
    codes "2 hear 0 1 : noted" ∷
    codes "3 send 3 ac57306b836ceffb8f664c01cc12f8f4d3bc3e1b5e4e872eded62c8bfc831f031fa140c8c4dc8ade : queued 1 | 2 Spread to 0,2" ∷
    codes "4 hear 2 2 : kept" ∷
    codes "5 hear 0 2 : numbered 2 | 3 Order to 2,3" ∷
    codes "6 hear 2 3 : stored 2" ∷
    codes "7 tick 1 : idle" ∷
    codes "8 hear 3 3 : stored 2" ∷
    codes "9 take 2 : took 1 view 1.0 0,2,3" ∷
    codes "10 ask 0 4 : unknown" ∷
    codes "11 join 1 : asked | 4 JoinAsk to all" ∷
    codes "12 hear 3 4 : elsewhere" ∷
    codes "13 hear 0 4 : held 0 2 | 5 Accept to 2,3" ∷
    codes "14 hear 3 5 : known | 6 Ack to 0" ∷
    codes "15 state 3 : joined 1" ∷
    codes "group 1 view 1.0 0,2,3" ∷
    codes "group 2 data 3 1 ac57306b836ceffb8f664c01cc12f8f4d3bc3e1b5e4e872eded62c8bfc831f031fa140c8c4dc8ade" ∷
    codes "log 0 empty" ∷
    codes "log 2 1 view 1.0 0,2,3" ∷
    codes "log 3 empty" ∷
    codes "lawful" ∷
    [])

abbrev pub All6 : Type 0
All6 = play_text_of (rules_with (0 ∷ 1 ∷ 2 ∷ []) 0 64 0) (
    on 0 act.Tick ∷ on 1 (act.Hear 1) ∷ on 0 (act.Hear 2) ∷ on 2 act.State ∷ on 0 (act.Hear 2) ∷ on 0 (act.Hear 2) ∷ on 0 (act.Hear 2) ∷
    on 1 (act.Hear 1) ∷ on 0 (act.Hear 3) ∷
    on 3 (act.Send (97 ∷ 68 ∷ 186 ∷ 140 ∷ 18 ∷ 136 ∷ 13 ∷ 246 ∷ 15 ∷ 199 ∷ 97 ∷ 227 ∷ 111 ∷ 22 ∷ 198 ∷ 0 ∷ 250 ∷ 78 ∷ 253 ∷ 246 ∷ 240 ∷ 70 ∷ 47 ∷ 93 ∷
    206 ∷ 20 ∷ 209 ∷ 170 ∷ 28 ∷ 77 ∷ 35 ∷ 175 ∷ 134 ∷ 29 ∷ 65 ∷ 143 ∷ 164 ∷ 135 ∷ 24 ∷ 169 ∷ 157 ∷ 69 ∷ 71 ∷ 193 ∷ 44 ∷ 10 ∷ 131 ∷ 230 ∷ 34 ∷ 15 ∷ 64
    ∷ 60 ∷ 52 ∷ 41 ∷ 236 ∷ 188 ∷ 207 ∷ 182 ∷ 36 ∷ 40 ∷ 243 ∷ 112 ∷ 73 ∷ 106 ∷ 244 ∷ 144 ∷ 0 ∷ 211 ∷ 39 ∷ 55 ∷ 249 ∷ 103 ∷ 8 ∷ 235 ∷ 98 ∷ 109 ∷ 174 ∷ 0
    ∷ 131 ∷ 49 ∷ 21 ∷ 15 ∷ 244 ∷ 197 ∷ 175 ∷ 186 ∷ 202 ∷ 191 ∷ 64 ∷ 70 ∷ 133 ∷ 82 ∷ 199 ∷ 247 ∷ 18 ∷ 217 ∷ 247 ∷ 114 ∷ 93 ∷ 218 ∷ 249 ∷ 42 ∷ 167 ∷ 47
    ∷ 243 ∷ 179 ∷ 110 ∷ 151 ∷ 111 ∷ 156 ∷ 64 ∷ 100 ∷ 73 ∷ 252 ∷ 98 ∷ 155 ∷ 56 ∷ 222 ∷ 156 ∷ 13 ∷ 199 ∷ 3 ∷ 82 ∷ 201 ∷ 62 ∷ 87 ∷ 15 ∷ 62 ∷ 215 ∷ 252 ∷
    156 ∷ 134 ∷ 244 ∷ 23 ∷ 191 ∷ 105 ∷ 180 ∷ 133 ∷ 30 ∷ 126 ∷ 145 ∷ 10 ∷ 58 ∷ 87 ∷ 51 ∷ 245 ∷ 252 ∷ 73 ∷ 146 ∷ 170 ∷ 119 ∷ 5 ∷ 147 ∷ 56 ∷ 195 ∷ 238 ∷
    139 ∷ 45 ∷ 201 ∷ 227 ∷ 92 ∷ 202 ∷ 177 ∷ 239 ∷ 193 ∷ 204 ∷ 163 ∷ 133 ∷ 91 ∷ 226 ∷ 219 ∷ 122 ∷ 217 ∷ 250 ∷ 122 ∷ 212 ∷ 200 ∷ 42 ∷ 110 ∷ 193 ∷ 18 ∷
    194 ∷ 205 ∷ 115 ∷ 105 ∷ 255 ∷ 195 ∷ 196 ∷ 90 ∷ 38 ∷ 153 ∷ 197 ∷ 180 ∷ 43 ∷ 82 ∷ 214 ∷ 215 ∷ 127 ∷ 65 ∷ 100 ∷ 175 ∷ 97 ∷ 194 ∷ 197 ∷ 190 ∷ 225 ∷
    125 ∷ 94 ∷ 218 ∷ 195 ∷ 165 ∷ 75 ∷ 250 ∷ 188 ∷ 42 ∷ 169 ∷ 171 ∷ 10 ∷ 196 ∷ 130 ∷ 40 ∷ 194 ∷ 220 ∷ 97 ∷ 92 ∷ 172 ∷ 78 ∷ 70 ∷ 78 ∷ 140 ∷ 153 ∷ 226 ∷
    207 ∷ 88 ∷ 205 ∷ 217 ∷ 68 ∷ 217 ∷ 69 ∷ 24 ∷ 51 ∷ 182 ∷ 178 ∷ 248 ∷ 76 ∷ 165 ∷ 34 ∷ 46 ∷ 1 ∷ 52 ∷ 103 ∷ 19 ∷ 46 ∷ 236 ∷ 55 ∷ 99 ∷ [])) ∷
    on 2 (act.Hear 1) ∷ on 3 act.Take ∷ on 2 (act.Hear 1) ∷ on 3 act.State ∷ on 0 (act.Hear 5) ∷
    []) ≡ lines (
    codes "1 tick 0 : ticked | 1 Accept to 1,2" ∷
    codes "2 hear 1 1 : known | 2 Ack to 0" ∷
    codes "3 hear 0 2 : noted" ∷
    codes "4 state 2 : joined 1" ∷
    codes "5 hear 0 2 : noted" ∷
    codes "6 hear 0 2 : noted" ∷
    codes "7 hear 0 2 : noted" ∷
    codes "8 hear 1 1 : known | 3 Ack to 0" ∷
    codes "9 hear 0 3 : noted" ∷
    (codes "10 send 3 6144ba8c12880df60fc761e36f16c600fa4efdf6f0462f5dce14d1aa1c4d23af861d418fa48718a99d4547c12c0a83e6220f403c3429ec"
    ++ codes "bccfb62428f370496af49000d32737f96708eb626dae008331150ff4c5afbacabf40468552c7f712d9f7725ddaf92aa72ff3b36e976f9c406449fc62"
    ++ codes "9b38de9c0dc70352c93e570f3ed7fc9c86f417bf69b4851e7e910a3a5733f5fc4992aa77059338c3ee8b2dc9e35ccab1efc1cca3855be2db7ad9fa7a"
    ++ codes "d4c82a6ec112c2cd7369ffc3c45a2699c5b42b52d6d77f4164af61c2c5bee17d5edac3a54bfabc2aa9ab0ac48228c2dc615cac4e464e8c99e2cf58cd"
    ++ codes "d944d9451833b6b2f84ca5222e013467132eec3763 : not-member") ∷
    codes "11 hear 2 1 : known | 4 Ack to 0" ∷
    codes "12 take 3 : not-member" ∷
    codes "13 hear 2 1 : known | 5 Ack to 0" ∷
    codes "14 state 3 : stranger" ∷
    codes "15 hear 0 5 : noted" ∷
    codes "group 1 view 1.0 0,1,2" ∷
    codes "log 0 empty" ∷
    codes "log 1 empty" ∷
    codes "log 2 empty" ∷
    codes "lawful" ∷
    [])

abbrev pub All7 : Type 0
All7 = play_text_of (rules_with (0 ∷ 1 ∷ 2 ∷ []) 2 16 256) (
    on 2 act.Tick ∷ on 0 (act.Hear 1) ∷ on 0 (act.Cut 1 40) ∷ on 2 (act.Send (29 ∷ [])) ∷ on 0 (act.Hear 2) ∷ on 0 act.Leave ∷ on 1 (act.Hear 3) ∷
    on 0 (act.Hear 5) ∷ on 1 (act.Hear 4) ∷ on 1 (act.Hear 3) ∷ on 0 (act.Hear 6) ∷ on 1 (act.Hear 4) ∷ on 2 (act.Hear 6) ∷ on 2 (act.Hear 6) ∷
    on 1 (act.Hear 4) ∷ on 1 (act.GiveUp 0) ∷ on 2 (act.Hear 3) ∷ on 0 (act.Hear 2) ∷ on 1 (act.Done 1) ∷ on 0 act.Take ∷ on 2 (act.Hear 6) ∷
    on 1 (act.Hear 10) ∷ on 0 act.Tick ∷ on 1 (act.Hear 8) ∷ on 0 (act.Hear 5) ∷ on 1 (act.Hear 11) ∷ on 1 act.Tick ∷ on 1 (act.Hear 7) ∷
    on 1 (act.Hear 9) ∷ on 1 (act.Hear 8) ∷
    []) ≡ lines (
    codes "1 tick 2 : ticked | 1 Ack to 0" ∷
    codes "2 hear 0 1 : noted" ∷
    codes "3 cut 0 1 40 : noted" ∷
    codes "4 send 2 1d : queued 1 | 2 Request to 0" ∷
    codes "5 hear 0 2 : numbered 2 | 3 Bcast to 1,2" ∷
    codes "6 leave 0 : asked | 4 HandOver to 1" ∷
    codes "7 hear 1 3 : stored 2 | 5 Ack to 0" ∷
    codes "8 hear 0 5 : noted" ∷
    codes "9 hear 1 4 : waiting 0,2 | 6 Invite to 0,2" ∷
    codes "10 hear 1 3 : elsewhere" ∷
    codes "11 hear 0 6 : voted | 7 Vote to 1" ∷
    codes "12 hear 1 4 : elsewhere" ∷
    codes "13 hear 2 6 : voted | 8 Vote to 1" ∷
    codes "14 hear 2 6 : voted | 9 Vote to 1" ∷
    codes "15 hear 1 4 : elsewhere" ∷
    codes "16 giveup 1 0 : not-stopped" ∷
    codes "17 hear 2 3 : elsewhere" ∷
    codes "18 hear 0 2 : elsewhere" ∷
    codes "19 done 1 1 : unknown" ∷
    codes "20 take 0 : took 1 view 1.0 0,1,2" ∷
    codes "21 hear 2 6 : voted | 10 Vote to 1" ∷
    codes "22 hear 1 10 : waiting 0" ∷
    codes "23 tick 0 : ticked | 11 Fetch to 1" ∷
    codes "24 hear 1 8 : waiting 0" ∷
    codes "25 hear 0 5 : elsewhere" ∷
    codes "26 hear 1 11 : elsewhere" ∷
    codes "27 tick 1 : ticked | 12 Invite to 0" ∷
    codes "28 hear 1 7 : decided 3 0,1,2 | 13 Result to 0,2" ∷
    codes "29 hear 1 9 : elsewhere" ∷
    codes "30 hear 1 8 : elsewhere" ∷
    codes "group 1 view 1.0 0,1,2" ∷
    codes "log 0 1 view 1.0 0,1,2" ∷
    codes "log 1 empty" ∷
    codes "log 2 empty" ∷
    codes "lawful" ∷
    [])

abbrev pub All8 : Type 0
All8 = play_text_of (rules_with (0 ∷ 1 ∷ 3 ∷ []) 0 16 4) (
    on 0 (act.Done 4) ∷ on 3 act.Tick ∷ on 0 (act.Hear 1) ∷ on 0 (act.Reset 1 0) ∷ on 1 (act.Hear 2) ∷ on 0 (act.Hear 3) ∷ on 1 (act.Hear 2) ∷
    on 1 (act.Hear 2) ∷ on 0 (act.GiveUp 3) ∷ on 0 (act.Hear 3) ∷ on 0 (act.Hear 5) ∷ on 1 (act.Done 2) ∷ on 0 (act.GiveUp 3) ∷ on 1 act.Take ∷
    on 2 (act.Hear 5) ∷ on 0 (act.GiveUp 3) ∷ on 1 (act.Done 3) ∷ on 2 (act.Done 2) ∷ on 3 (act.Hear 2) ∷ on 3 act.Take ∷ on 1 act.Take ∷
    on 3 (act.Done 4) ∷ on 3 (act.Reset 1 0) ∷ on 0 (act.GiveUp 3) ∷ on 3 act.Leave ∷ on 0 (act.Hear 6) ∷ on 0 (act.Hear 4) ∷ on 3 (act.GiveUp 1) ∷
    on 1 (act.Hear 7) ∷ on 1 (act.Hear 7) ∷
    []) ≡ lines (
    codes "1 done 0 4 : unknown" ∷
    codes "2 tick 3 : ticked | 1 Ack to 0" ∷
    codes "3 hear 0 1 : noted" ∷
    codes "4 reset 0 1 : waiting 1,3 | 2 Invite to 1,3" ∷
    codes "5 hear 1 2 : voted | 3 Vote to 0" ∷
    codes "6 hear 0 3 : waiting 3" ∷
    codes "7 hear 1 2 : voted | 4 Vote to 0" ∷
    codes "8 hear 1 2 : voted | 5 Vote to 0" ∷
    codes "9 giveup 0 3 : not-stopped" ∷
    codes "10 hear 0 3 : waiting 3" ∷
    codes "11 hear 0 5 : waiting 3" ∷
    codes "12 done 1 2 : unknown" ∷
    codes "13 giveup 0 3 : not-stopped" ∷
    codes "14 take 1 : took 1 view 1.0 0,1,3" ∷
    codes "15 hear 2 5 : not-addressed" ∷
    codes "16 giveup 0 3 : not-stopped" ∷
    codes "17 done 1 3 : unknown" ∷
    codes "18 done 2 2 : unknown" ∷
    codes "19 hear 3 2 : voted | 6 Vote to 0" ∷
    codes "20 take 3 : took 1 view 1.0 0,1,3" ∷
    codes "21 take 1 : empty" ∷
    codes "22 done 3 4 : unknown" ∷
    codes "23 reset 3 1 : waiting 0,1 | 7 Invite to 0,1" ∷
    codes "24 giveup 0 3 : not-stopped" ∷
    codes "25 leave 3 : busy 0" ∷
    codes "26 hear 0 6 : decided 2 0,1,3 | 8 Accept to 1,3 | 9 Result to 1,3" ∷
    codes "27 hear 0 4 : elsewhere" ∷
    codes "28 giveup 3 1 : not-stopped" ∷
    codes "29 hear 1 7 : voted | 10 Vote to 3" ∷
    codes "30 hear 1 7 : voted | 11 Vote to 3" ∷
    codes "group 1 view 1.0 0,1,3" ∷
    codes "group 2 view 2.0 0,1,3" ∷
    codes "log 0 empty" ∷
    codes "log 1 1 view 1.0 0,1,3" ∷
    codes "log 3 1 view 1.0 0,1,3" ∷
    codes "lawful" ∷
    [])

abbrev pub All9 : Type 0
All9 = play_text_of (rules_with (3 ∷ []) 1 3 4) (
    on 2 act.Tick ∷ on 0 (act.Reset 1 1) ∷ on 0 act.Stop ∷ on 4 act.Stop ∷ on 1 act.Tick ∷ on 2 act.Join ∷ on 1 (act.Hear 1) ∷ on 1 (act.Hear 1) ∷
    on 2 (act.Send (148 ∷ 30 ∷ 194 ∷ 94 ∷ 100 ∷ 163 ∷ 70 ∷ 38 ∷ 31 ∷ 223 ∷ 38 ∷ 234 ∷ 244 ∷ 237 ∷ 203 ∷ 255 ∷ 111 ∷ 43 ∷ 23 ∷ 163 ∷ 229 ∷ 200 ∷ 52 ∷ 7
    ∷ 189 ∷ 227 ∷ 160 ∷ 80 ∷ 106 ∷ 62 ∷ 157 ∷ 33 ∷ 175 ∷ 237 ∷ 148 ∷ 15 ∷ 23 ∷ 174 ∷ 158 ∷ 209 ∷ [])) ∷
    on 0 act.Return ∷ on 3 act.Take ∷ on 0 (act.Hear 1) ∷ on 4 act.Return ∷ on 3 (act.Hear 1) ∷ on 3 act.Tick ∷ on 2 (act.Hear 2) ∷ on 2 (act.Ask 2) ∷
    on 4 (act.Hear 1) ∷ on 2 (act.Send (190 ∷ 178 ∷ [])) ∷ on 3 act.Tick ∷ on 1 act.State ∷ on 2 (act.Hear 6) ∷ on 2 act.Take ∷ on 3 (act.Hear 7) ∷
    on 2 (act.Done 1) ∷ on 3 act.Tick ∷ on 4 act.Leave ∷ on 2 (act.Hear 8) ∷ on 2 act.Tick ∷ on 3 act.Tick ∷
    []) ≡ lines (
    codes "1 tick 2 : idle" ∷
    codes "2 reset 0 1 : not-member" ∷
    codes "3 stop 0 : stopped" ∷
    codes "4 stop 4 : stopped" ∷
    codes "5 tick 1 : idle" ∷
    codes "6 join 2 : asked | 1 JoinAsk to all" ∷
    codes "7 hear 1 1 : elsewhere" ∷
    codes "8 hear 1 1 : elsewhere" ∷
    codes "9 send 2 941ec25e64a346261fdf26eaf4edcbff6f2b17a3e5c83407bde3a0506a3e9d21afed940f17ae9ed1 : not-member" ∷
    codes "10 return 0 : returned 2" ∷
    codes "11 take 3 : took 1 view 1.3 3" ∷
    codes "12 hear 0 1 : elsewhere" ∷
    codes "13 return 4 : returned 2" ∷
    codes "14 hear 3 1 : numbered 2 | 2 Welcome to 2" ∷
    codes "15 tick 3 : ticked | 3 Accept to 2" ∷
    codes "16 hear 2 2 : welcomed 2 | 4 Nack to 3" ∷
    codes "17 ask 2 2 : unknown" ∷
    codes "18 hear 4 1 : elsewhere" ∷
    codes "19 send 2 beb2 : queued 1 | 5 Request to 3" ∷
    codes "20 tick 3 : ticked | 6 Accept to 2" ∷
    codes "21 state 1 : stranger" ∷
    codes "22 hear 2 6 : gap 2 | 7 Nack to 3" ∷
    codes "23 take 2 : empty" ∷
    codes "24 hear 3 7 : served 1 | 8 Bcast to 2" ∷
    codes "25 done 2 1 : pending 1" ∷
    codes "26 tick 3 : ticked | 9 Accept to 2" ∷
    codes "27 leave 4 : not-member" ∷
    codes "28 hear 2 8 : stored 2 | 10 Ack to 3" ∷
    codes "29 tick 2 : ticked | 11 Request to 3" ∷
    codes "30 tick 3 : ticked | 12 Accept to 2" ∷
    codes "group 1 view 1.3 3" ∷
    codes "group 2 join 2" ∷
    codes "log 2 empty" ∷
    codes "log 3 1 view 1.3 3" ∷
    codes "lawful" ∷
    [])
