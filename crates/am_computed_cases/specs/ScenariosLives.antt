-- Scripts and their texts. Written by tools/rows.py from cases/scenarios_lives.
use Rattle.std.specs.Prelude.{◌≡◌, [], ◌∷◌, ◌++◌, codes}
use Rattle.am_group.specs.declared.event.Act.TheVariants as act
use Rattle.am_group_defs.specs.Play.{play_text_of}
use Rattle.am_computed_cases.specs.Scripts.{rules_with, on, lines}

abbrev pub Lives1 : Type 0
Lives1 = play_text_of (rules_with (1 ∷ 2 ∷ []) 1 2 0) (
    on 1 act.Tick ∷ on 2 (act.Hear 1) ∷ on 2 (act.Hear 1) ∷ on 1 act.Tick ∷ on 0 act.Tick ∷ on 1 act.Stop ∷ on 2 (act.Hear 4) ∷ on 0 (act.Send []) ∷
    on 2 (act.Hear 4) ∷ on 2 act.Take ∷ on 2 (act.Reset 3 1) ∷ on 2 (act.GiveUp 1) ∷ on 2 (act.Hear 4) ∷ on 2 (act.Hear 4) ∷ on 0 act.Take ∷
    []) ≡ lines (
    codes "1 tick 1 : ticked | 1 Accept to 2" ∷
    codes "2 hear 2 1 : known | 2 Ack to 1" ∷
    codes "3 hear 2 1 : known | 3 Ack to 1" ∷
    codes "4 tick 1 : ticked | 4 Accept to 2" ∷
    codes "5 tick 0 : idle" ∷
    codes "6 stop 1 : stopped" ∷
    codes "7 hear 2 4 : known | 5 Ack to 1" ∷
    codes "8 send 0 - : not-member" ∷
    codes "9 hear 2 4 : known | 6 Ack to 1" ∷
    codes "10 take 2 : took 1 view 1.1 1,2" ∷
    codes "11 reset 2 3 : waiting 1 | 7 Invite to 1" ∷
    codes "12 giveup 2 1 : too-few 1 3" ∷
    codes "13 hear 2 4 : elsewhere" ∷
    codes "14 hear 2 4 : elsewhere" ∷
    codes "15 take 0 : not-member" ∷
    codes "group 1 view 1.1 1,2" ∷
    codes "log 1 empty" ∷
    codes "log 2 1 view 1.1 1,2" ∷
    codes "lawful" ∷
    [])

abbrev pub Lives10 : Type 0
Lives10 = play_text_of (rules_with (0 ∷ 1 ∷ []) 1 16 4) (
    on 0 act.Tick ∷ on 0 act.Tick ∷ on 1 act.Take ∷ on 1 (act.Hear 1) ∷ on 1 (act.Hear 2) ∷ on 0 (act.Reset 1 1) ∷ on 0 act.Join ∷ on 1 (act.Hear 5) ∷
    on 1 (act.Hear 2) ∷ on 0 (act.Hear 4) ∷ on 1 (act.Reset 1 1) ∷ on 0 (act.Hear 7) ∷ on 0 (act.Hear 4) ∷ on 1 act.Tick ∷ on 1 (act.GiveUp 0) ∷
    on 1 (act.Hear 8) ∷ on 0 act.Tick ∷ on 0 (act.Hear 6) ∷ on 1 act.Take ∷ on 0 act.Take ∷ on 0 (act.Hear 7) ∷ on 0 (act.Hear 7) ∷ on 0 act.Tick ∷
    on 1 (act.Hear 11) ∷ on 1 (act.Hear 5) ∷ on 1 (act.Hear 12) ∷ on 0 act.Take ∷ on 0 (act.Hear 15) ∷
    on 1 (act.Send (163 ∷ 134 ∷ 213 ∷ 93 ∷ 189 ∷ 47 ∷ 237 ∷ 167 ∷ 64 ∷ 141 ∷ 186 ∷ 222 ∷ 208 ∷ 149 ∷ 21 ∷ 227 ∷ 133 ∷ 165 ∷ 16 ∷ 175 ∷ 228 ∷ 140 ∷ 65
    ∷ 162 ∷ 82 ∷ 147 ∷ 165 ∷ 195 ∷ 84 ∷ 108 ∷ 207 ∷ 165 ∷ 216 ∷ 52 ∷ 59 ∷ 200 ∷ 255 ∷ 97 ∷ 125 ∷ 30 ∷ 37 ∷ 174 ∷ 67 ∷ 187 ∷ 170 ∷ 25 ∷ 170 ∷ 44 ∷ 29 ∷
    6 ∷ 149 ∷ 231 ∷ 82 ∷ 12 ∷ 163 ∷ 54 ∷ 98 ∷ 75 ∷ 189 ∷ 82 ∷ 243 ∷ 90 ∷ 161 ∷ 90 ∷ 236 ∷ 127 ∷ 189 ∷ 119 ∷ 151 ∷ 80 ∷ 19 ∷ 201 ∷ 44 ∷ 143 ∷ 150 ∷ 0 ∷
    0 ∷ 203 ∷ 6 ∷ 18 ∷ 78 ∷ 68 ∷ 20 ∷ 228 ∷ 109 ∷ 113 ∷ 94 ∷ 18 ∷ 70 ∷ 3 ∷ 199 ∷ 66 ∷ 141 ∷ 110 ∷ 27 ∷ 252 ∷ 2 ∷ 233 ∷ 187 ∷ 28 ∷ 1 ∷ 97 ∷ 1 ∷ 243 ∷ 5
    ∷ 18 ∷ 4 ∷ 101 ∷ 87 ∷ 132 ∷ 166 ∷ 58 ∷ 13 ∷ 227 ∷ 12 ∷ 87 ∷ 112 ∷ 31 ∷ 60 ∷ 158 ∷ 89 ∷ 65 ∷ 38 ∷ 90 ∷ 204 ∷ 16 ∷ 71 ∷ 160 ∷ 48 ∷ 23 ∷ 170 ∷ 72 ∷
    189 ∷ 28 ∷ 146 ∷ 181 ∷ 50 ∷ 142 ∷ 123 ∷ 222 ∷ 202 ∷ 91 ∷ 86 ∷ 157 ∷ 113 ∷ 65 ∷ 188 ∷ 39 ∷ 230 ∷ 222 ∷ 101 ∷ 145 ∷ 248 ∷ 187 ∷ 50 ∷ 28 ∷ 218 ∷ 61 ∷
    77 ∷ 172 ∷ 199 ∷ 124 ∷ 42 ∷ 244 ∷ 97 ∷ 113 ∷ 228 ∷ 113 ∷ 107 ∷ 3 ∷ 216 ∷ 249 ∷ 58 ∷ 197 ∷ 226 ∷ 105 ∷ 153 ∷ 152 ∷ 26 ∷ 54 ∷ 216 ∷ 131 ∷ 61 ∷ 130 ∷
    5 ∷ 222 ∷ 186 ∷ 10 ∷ 65 ∷ 200 ∷ 9 ∷ 91 ∷ 66 ∷ 239 ∷ 20 ∷ 218 ∷ 224 ∷ 128 ∷ 155 ∷ 192 ∷ 129 ∷ 28 ∷ 138 ∷ 157 ∷ 67 ∷ 68 ∷ 98 ∷ 122 ∷ 191 ∷ 172 ∷ 248
    ∷ 60 ∷ 194 ∷ 231 ∷ 49 ∷ 2 ∷ 39 ∷ 177 ∷ 229 ∷ 55 ∷ 147 ∷ 82 ∷ 2 ∷ 127 ∷ 209 ∷ 249 ∷ 49 ∷ 88 ∷ 80 ∷ 221 ∷ 135 ∷ 36 ∷ 254 ∷ 162 ∷ 32 ∷ 7 ∷ 99 ∷ 174 ∷
    184 ∷ 230 ∷ 95 ∷ 206 ∷ 147 ∷ 114 ∷ 194 ∷ 4 ∷ 178 ∷ 151 ∷ 164 ∷ 241 ∷ 20 ∷ 13 ∷ 126 ∷ 200 ∷ 209 ∷ 147 ∷ [])) ∷
    on 1 (act.Hear 13) ∷
    []) ≡ lines (
    codes "1 tick 0 : ticked | 1 Accept to 1" ∷
    codes "2 tick 0 : ticked | 2 Accept to 1" ∷
    codes "3 take 1 : took 1 view 1.0 0,1" ∷
    codes "4 hear 1 1 : known | 3 Ack to 0" ∷
    codes "5 hear 1 2 : known | 4 Ack to 0" ∷
    codes "6 reset 0 1 : waiting 1 | 5 Invite to 1" ∷
    codes "7 join 0 : joined 1" ∷
    codes "8 hear 1 5 : voted | 6 Vote to 0" ∷
    codes "9 hear 1 2 : elsewhere" ∷
    codes "10 hear 0 4 : elsewhere" ∷
    codes "11 reset 1 1 : waiting 0 | 7 Invite to 0" ∷
    codes "12 hear 0 7 : voted | 8 Vote to 1" ∷
    codes "13 hear 0 4 : elsewhere" ∷
    codes "14 tick 1 : ticked | 9 Invite to 0" ∷
    codes "15 giveup 1 0 : not-stopped" ∷
    codes "16 hear 1 8 : decided 2 0,1 | 10 Result to 0" ∷
    codes "17 tick 0 : ticked | 11 Fetch to 1" ∷
    codes "18 hear 0 6 : elsewhere" ∷
    codes "19 take 1 : empty" ∷
    codes "20 take 0 : took 1 view 1.0 0,1" ∷
    codes "21 hear 0 7 : voted | 12 Vote to 1" ∷
    codes "22 hear 0 7 : voted | 13 Vote to 1" ∷
    codes "23 tick 0 : ticked | 14 Fetch to 1" ∷
    codes "24 hear 1 11 : served 1 | 15 Piece to 0" ∷
    codes "25 hear 1 5 : newer 3.1 | 16 Vote to 0" ∷
    codes "26 hear 1 12 : elsewhere" ∷
    codes "27 take 0 : empty" ∷
    codes "28 hear 0 15 : stored 2 | 17 Ack to 1" ∷
    (codes "29 send 1 a386d55dbd2feda7408dbaded09515e385a510afe48c41a25293a5c3546ccfa5d8343bc8ff617d1e25ae43bbaa19aa2c1d0695e7520ca3"
    ++ codes "36624bbd52f35aa15aec7fbd77975013c92c8f960000cb06124e4414e46d715e124603c7428d6e1bfc02e9bb1c016101f3051204655784a63a0de30c"
    ++ codes "57701f3c9e5941265acc1047a03017aa48bd1c92b5328e7bdeca5b569d7141bc27e6de6591f8bb321cda3d4dacc77c2af46171e4716b03d8f93ac5e2"
    ++ codes "6999981a36d8833d8205deba0a41c8095b42ef14dae0809bc0811c8a9d4344627abfacf83cc2e7310227b1e5379352027fd1f9315850dd8724fea220"
    ++ codes "0763aeb8e65fce9372c204b297a4f1140d7ec8d193 : queued 1 | 18 Bcast to 0") ∷
    codes "30 hear 1 13 : elsewhere" ∷
    codes "group 1 view 1.0 0,1" ∷
    codes "log 0 1 view 1.0 0,1" ∷
    codes "log 1 1 view 1.0 0,1" ∷
    codes "lawful" ∷
    [])

abbrev pub Lives2 : Type 0
Lives2 = play_text_of (rules_with (0 ∷ 1 ∷ 2 ∷ 3 ∷ 4 ∷ []) 1 1 256) (
    on 3 act.Take ∷ on 1 act.Return ∷ on 3 (act.Reset 3 0) ∷
    on 0 (act.Send (111 ∷ 207 ∷ 254 ∷ 209 ∷ 81 ∷ 223 ∷ 73 ∷ 206 ∷ 190 ∷ 216 ∷ 207 ∷ 113 ∷ 142 ∷ 65 ∷ 24 ∷ 88 ∷ 69 ∷ 108 ∷ 184 ∷ 152 ∷ 155 ∷ 4 ∷ 162 ∷
    191 ∷ 226 ∷ 180 ∷ 169 ∷ 255 ∷ 195 ∷ 33 ∷ 68 ∷ 122 ∷ 129 ∷ 127 ∷ 74 ∷ 112 ∷ 123 ∷ 61 ∷ 219 ∷ 122 ∷ [])) ∷
    on 1 (act.Done 5) ∷ on 1 (act.Hear 1) ∷ on 2 (act.Hear 1) ∷ on 3 (act.GiveUp 0) ∷ on 3 (act.Hear 2) ∷ on 3 (act.Hear 3) ∷ on 3 (act.GiveUp 4) ∷
    on 0 (act.Hear 1) ∷ on 4 (act.Done 3) ∷ on 4 act.Tick ∷ on 2 (act.Hear 1) ∷
    []) ≡ lines (
    codes "1 take 3 : took 1 view 1.0 0,1,2,3,4" ∷
    codes "2 return 1 : running 1" ∷
    codes "3 reset 3 3 r0 : waiting 0,1,2,4 | 1 Invite to 0,1,2,4" ∷
    codes "4 send 0 6fcffed151df49cebed8cf718e411858456cb8989b04a2bfe2b4a9ffc321447a817f4a707b3ddb7a : queued 1" ∷
    codes "5 done 1 5 : unknown" ∷
    codes "6 hear 1 1 : voted | 2 Vote to 3" ∷
    codes "7 hear 2 1 : voted | 3 Vote to 3" ∷
    codes "8 giveup 3 0 : not-stopped" ∷
    codes "9 hear 3 2 : waiting 0,2,4" ∷
    codes "10 hear 3 3 : waiting 0,4" ∷
    codes "11 giveup 3 4 : not-stopped" ∷
    codes "12 hear 0 1 : voted | 4 Vote to 3" ∷
    codes "13 done 4 3 : unknown" ∷
    codes "14 tick 4 : ticked | 5 Ack to 0" ∷
    codes "15 hear 2 1 : voted | 6 Vote to 3" ∷
    codes "group 1 view 1.0 0,1,2,3,4" ∷
    codes "log 0 empty" ∷
    codes "log 1 empty" ∷
    codes "log 2 empty" ∷
    codes "log 3 1 view 1.0 0,1,2,3,4" ∷
    codes "log 4 empty" ∷
    codes "lawful" ∷
    [])

abbrev pub Lives3 : Type 0
Lives3 = play_text_of (rules_with (0 ∷ 2 ∷ []) 0 3 256) (
    on 1 act.Tick ∷ on 1 act.Tick ∷ on 1 act.Tick ∷ on 2 act.Tick ∷ on 0 act.Join ∷ on 0 (act.Hear 1) ∷ on 0 (act.Hear 1) ∷ on 2 (act.Hear 1) ∷
    on 2 act.Take ∷ on 2 act.Take ∷ on 0 act.Tick ∷ on 2 act.Tick ∷ on 2 (act.Hear 2) ∷ on 2 act.Take ∷ on 1 act.Tick ∷ on 0 (act.Hear 3) ∷
    on 1 act.Take ∷ on 0 act.Take ∷ on 2 (act.Hear 2) ∷ on 2 (act.Done 3) ∷ on 2 act.Take ∷ on 2 act.Stop ∷ on 0 act.Take ∷ on 2 act.Return ∷
    on 0 (act.Hear 4) ∷ on 2 act.Take ∷ on 0 act.Tick ∷ on 0 (act.Hear 5) ∷ on 0 (act.Hear 4) ∷ on 1 act.Take ∷
    []) ≡ lines (
    codes "1 tick 1 : idle" ∷
    codes "2 tick 1 : idle" ∷
    codes "3 tick 1 : idle" ∷
    codes "4 tick 2 : ticked | 1 Ack to 0" ∷
    codes "5 join 0 : joined 1" ∷
    codes "6 hear 0 1 : noted" ∷
    codes "7 hear 0 1 : noted" ∷
    codes "8 hear 2 1 : not-addressed" ∷
    codes "9 take 2 : took 1 view 1.0 0,2" ∷
    codes "10 take 2 : empty" ∷
    codes "11 tick 0 : ticked | 2 Accept to 2" ∷
    codes "12 tick 2 : ticked | 3 Ack to 0" ∷
    codes "13 hear 2 2 : known | 4 Ack to 0" ∷
    codes "14 take 2 : empty" ∷
    codes "15 tick 1 : idle" ∷
    codes "16 hear 0 3 : noted" ∷
    codes "17 take 1 : not-member" ∷
    codes "18 take 0 : took 1 view 1.0 0,2" ∷
    codes "19 hear 2 2 : known | 5 Ack to 0" ∷
    codes "20 done 2 3 : unknown" ∷
    codes "21 take 2 : empty" ∷
    codes "22 stop 2 : stopped" ∷
    codes "23 take 0 : empty" ∷
    codes "24 return 2 : returned 2" ∷
    codes "25 hear 0 4 : noted" ∷
    codes "26 take 2 : not-member" ∷
    codes "27 tick 0 : ticked | 6 Accept to 2" ∷
    codes "28 hear 0 5 : noted" ∷
    codes "29 hear 0 4 : noted" ∷
    codes "30 take 1 : not-member" ∷
    codes "group 1 view 1.0 0,2" ∷
    codes "log 0 1 view 1.0 0,2" ∷
    codes "log 2 1 view 1.0 0,2" ∷
    codes "void from 22" ∷
    [])

abbrev pub Lives4 : Type 0
Lives4 = play_text_of (rules_with (4 ∷ []) 2 64 256) (
    on 1 act.Return ∷ on 0 act.Tick ∷ on 1 (act.Reset 1 2) ∷ on 0 act.Return ∷ on 3 act.Tick ∷ on 3 act.Tick ∷ on 4 act.Leave ∷ on 2 act.Tick ∷
    on 1 act.Tick ∷ on 3 act.Take ∷ on 1 act.Join ∷ on 4 act.Join ∷ on 2 (act.Hear 1) ∷ on 4 (act.Hear 1) ∷ on 4 (act.Hear 1) ∷ on 0 (act.Hear 1) ∷
    on 3 (act.Hear 1) ∷ on 2 act.Tick ∷
    on 4 (act.Send (245 ∷ 20 ∷ 30 ∷ 67 ∷ 142 ∷ 83 ∷ 70 ∷ 79 ∷ 153 ∷ 207 ∷ 125 ∷ 20 ∷ 235 ∷ 20 ∷ 83 ∷ 251 ∷ 106 ∷ 115 ∷ 17 ∷ 69 ∷ 248 ∷ 105 ∷ 26 ∷ 96 ∷
    126 ∷ 246 ∷ 80 ∷ 19 ∷ 198 ∷ 158 ∷ 182 ∷ 215 ∷ 182 ∷ 0 ∷ 84 ∷ 252 ∷ 108 ∷ 161 ∷ 195 ∷ 7 ∷ [])) ∷
    on 3 (act.Hear 1) ∷ on 1 act.Stop ∷ on 2 act.Tick ∷ on 0 act.Tick ∷ on 4 (act.Hear 1) ∷ on 1 act.Return ∷ on 2 act.Tick ∷ on 1 (act.Hear 2) ∷
    on 4 act.Return ∷ on 0 (act.Hear 1) ∷ on 3 (act.Hear 1) ∷
    []) ≡ lines (
    codes "1 return 1 : running 1" ∷
    codes "2 tick 0 : idle" ∷
    codes "3 reset 1 1 : not-member" ∷
    codes "4 return 0 : running 1" ∷
    codes "5 tick 3 : idle" ∷
    codes "6 tick 3 : idle" ∷
    codes "7 leave 4 : departed" ∷
    codes "8 tick 2 : idle" ∷
    codes "9 tick 1 : idle" ∷
    codes "10 take 3 : not-member" ∷
    codes "11 join 1 : asked | 1 JoinAsk to all" ∷
    codes "12 join 4 : not-member" ∷
    codes "13 hear 2 1 : elsewhere" ∷
    codes "14 hear 4 1 : elsewhere" ∷
    codes "15 hear 4 1 : elsewhere" ∷
    codes "16 hear 0 1 : elsewhere" ∷
    codes "17 hear 3 1 : elsewhere" ∷
    codes "18 tick 2 : idle" ∷
    codes "19 send 4 f5141e438e53464f99cf7d14eb1453fb6a731145f8691a607ef65013c69eb6d7b60054fc6ca1c307 : not-member" ∷
    codes "20 hear 3 1 : elsewhere" ∷
    codes "21 stop 1 : stopped" ∷
    codes "22 tick 2 : idle" ∷
    codes "23 tick 0 : idle" ∷
    codes "24 hear 4 1 : elsewhere" ∷
    codes "25 return 1 : returned 2" ∷
    codes "26 tick 2 : idle" ∷
    codes "27 hear 1 2 : no-packet" ∷
    codes "28 return 4 : returned 2" ∷
    codes "29 hear 0 1 : elsewhere" ∷
    codes "30 hear 3 1 : elsewhere" ∷
    codes "group 1 view 1.4 4" ∷
    codes "group 2 leave 4" ∷
    codes "log 4 empty" ∷
    codes "lawful" ∷
    [])

abbrev pub Lives5 : Type 0
Lives5 = play_text_of (rules_with (0 ∷ 4 ∷ []) 3 2 4) (
    on 4 (act.Send (254 ∷ 220 ∷ 35 ∷ 6 ∷ 1 ∷ [])) ∷ on 0 (act.Hear 1) ∷ on 4 (act.Hear 2) ∷ on 3 act.Leave ∷ on 0 (act.Hear 3) ∷ on 3 act.Take ∷
    on 5 act.Join ∷ on 4 act.Take ∷ on 1 act.Join ∷ on 0 (act.Hear 5) ∷ on 2 (act.Hear 5) ∷ on 1 act.Take ∷ on 0 (act.Hear 6) ∷ on 5 (act.Hear 6) ∷
    on 4 (act.Hear 4) ∷ on 3 (act.Hear 5) ∷ on 3 (act.Hear 6) ∷ on 2 (act.Hear 6) ∷ on 4 (act.Hear 5) ∷ on 4 (act.Hear 6) ∷ on 2 act.Join ∷
    on 1 (act.Hear 5) ∷ on 2 act.Leave ∷ on 4 (act.Hear 9) ∷ on 3 (act.Hear 9) ∷ on 4 (act.Hear 7) ∷ on 5 (act.Hear 9) ∷ on 2 act.Take ∷
    on 1 (act.Send (229 ∷ [])) ∷ on 4 (act.Hear 8) ∷
    []) ≡ lines (
    codes "1 send 4 fedc230601 : queued 1 | 1 Spread to 0" ∷
    codes "2 hear 0 1 : numbered 2 | 2 Order to 4" ∷
    codes "3 hear 4 2 : stored 2 | 3 Ack to 0" ∷
    codes "4 leave 3 : not-member" ∷
    codes "5 hear 0 3 : accepted 2 | 4 Accept to 4" ∷
    codes "6 take 3 : not-member" ∷
    codes "7 join 5 : asked | 5 JoinAsk to all" ∷
    codes "8 take 4 : took 1 view 1.0 0,4" ∷
    codes "9 join 1 : asked | 6 JoinAsk to all" ∷
    codes "10 hear 0 5 : held 0 2 | 7 Accept to 4" ∷
    codes "11 hear 2 5 : elsewhere" ∷
    codes "12 take 1 : not-member" ∷
    codes "13 hear 0 6 : held 0 2 | 8 Accept to 4" ∷
    codes "14 hear 5 6 : elsewhere" ∷
    codes "15 hear 4 4 : advanced 2" ∷
    codes "16 hear 3 5 : elsewhere" ∷
    codes "17 hear 3 6 : elsewhere" ∷
    codes "18 hear 2 6 : elsewhere" ∷
    codes "19 hear 4 5 : elsewhere" ∷
    codes "20 hear 4 6 : elsewhere" ∷
    codes "21 join 2 : asked | 9 JoinAsk to all" ∷
    codes "22 hear 1 5 : elsewhere" ∷
    codes "23 leave 2 : not-member" ∷
    codes "24 hear 4 9 : elsewhere" ∷
    codes "25 hear 3 9 : elsewhere" ∷
    codes "26 hear 4 7 : known | 10 Ack to 0" ∷
    codes "27 hear 5 9 : elsewhere" ∷
    codes "28 take 2 : not-member" ∷
    codes "29 send 1 e5 : not-member" ∷
    codes "30 hear 4 8 : known | 11 Ack to 0" ∷
    codes "group 1 view 1.0 0,4" ∷
    codes "group 2 data 4 1 fedc230601" ∷
    codes "log 0 empty" ∷
    codes "log 4 1 view 1.0 0,4" ∷
    codes "lawful" ∷
    [])

abbrev pub Lives6 : Type 0
Lives6 = play_text_of (rules_with (2 ∷ []) 2 3 0) (
    on 0 (act.Send (177 ∷ 1 ∷ 2 ∷ 44 ∷ 206 ∷ 40 ∷ 229 ∷ 65 ∷ 175 ∷ 4 ∷ 235 ∷ 61 ∷ 125 ∷ 9 ∷ 35 ∷ 246 ∷ 16 ∷ 148 ∷ 169 ∷ 89 ∷ 66 ∷ 126 ∷ 192 ∷ 60 ∷ 77
    ∷ 29 ∷ 40 ∷ 24 ∷ 105 ∷ 158 ∷ 79 ∷ 194 ∷ 31 ∷ 11 ∷ 196 ∷ 175 ∷ 71 ∷ 162 ∷ 247 ∷ 177 ∷ 45 ∷ 63 ∷ 40 ∷ 21 ∷ 105 ∷ 137 ∷ 12 ∷ 219 ∷ 68 ∷ 105 ∷ 199 ∷
    72 ∷ 116 ∷ 242 ∷ 157 ∷ 161 ∷ 205 ∷ 80 ∷ 34 ∷ 144 ∷ 183 ∷ 243 ∷ 124 ∷ 88 ∷ 18 ∷ 223 ∷ 107 ∷ 40 ∷ 112 ∷ 243 ∷ 125 ∷ 138 ∷ 58 ∷ 112 ∷ 13 ∷ 213 ∷ 162
    ∷ 115 ∷ 97 ∷ 101 ∷ 215 ∷ 57 ∷ 94 ∷ 203 ∷ 67 ∷ 189 ∷ 155 ∷ 116 ∷ 138 ∷ 219 ∷ 242 ∷ 183 ∷ 99 ∷ 117 ∷ 253 ∷ 133 ∷ 200 ∷ 161 ∷ 78 ∷ 180 ∷ 168 ∷ 18 ∷
    56 ∷ 237 ∷ 210 ∷ 127 ∷ 116 ∷ 238 ∷ 11 ∷ 178 ∷ 237 ∷ 101 ∷ 141 ∷ 0 ∷ 137 ∷ 122 ∷ 41 ∷ 165 ∷ 79 ∷ 129 ∷ 14 ∷ 45 ∷ 192 ∷ 65 ∷ 58 ∷ 148 ∷ 30 ∷ 91 ∷
    181 ∷ 173 ∷ 243 ∷ 231 ∷ 159 ∷ 143 ∷ 181 ∷ 106 ∷ 246 ∷ 67 ∷ 96 ∷ 253 ∷ 189 ∷ 45 ∷ 20 ∷ 15 ∷ 15 ∷ 196 ∷ 24 ∷ 220 ∷ 88 ∷ 113 ∷ 231 ∷ 250 ∷ 247 ∷ 2 ∷
    36 ∷ 14 ∷ 128 ∷ 89 ∷ 240 ∷ 244 ∷ 122 ∷ 112 ∷ 55 ∷ 14 ∷ 104 ∷ 171 ∷ 190 ∷ 157 ∷ 122 ∷ 93 ∷ 229 ∷ 113 ∷ 199 ∷ 138 ∷ 41 ∷ 107 ∷ 122 ∷ 93 ∷ 179 ∷ 74 ∷
    101 ∷ 236 ∷ 170 ∷ 24 ∷ 7 ∷ 142 ∷ 157 ∷ 13 ∷ 65 ∷ 13 ∷ 59 ∷ 66 ∷ 188 ∷ 156 ∷ 123 ∷ 131 ∷ 116 ∷ 239 ∷ 125 ∷ 155 ∷ 161 ∷ 227 ∷ 114 ∷ 229 ∷ 181 ∷ 106
    ∷ 45 ∷ 44 ∷ 111 ∷ 68 ∷ 98 ∷ 246 ∷ 143 ∷ 158 ∷ 217 ∷ 203 ∷ 114 ∷ 58 ∷ 228 ∷ 7 ∷ 29 ∷ 199 ∷ 10 ∷ 7 ∷ 44 ∷ 148 ∷ 75 ∷ 134 ∷ 197 ∷ 214 ∷ 43 ∷ 147 ∷ 35
    ∷ 193 ∷ 167 ∷ 9 ∷ 242 ∷ 66 ∷ 170 ∷ 239 ∷ 67 ∷ 56 ∷ 54 ∷ 85 ∷ 173 ∷ 36 ∷ 151 ∷ 59 ∷ 7 ∷ 155 ∷ 133 ∷ 141 ∷ 115 ∷ 164 ∷ 181 ∷ 195 ∷ 139 ∷ [])) ∷
    on 2 act.Join ∷ on 2 act.Join ∷ on 1 act.Tick ∷ on 1 (act.Send (121 ∷ [])) ∷ on 1 act.Join ∷ on 0 (act.Hear 1) ∷ on 0 (act.Hear 1) ∷
    on 2 (act.Hear 1) ∷ on 3 (act.Hear 1) ∷ on 0 (act.Hear 1) ∷ on 3 (act.Hear 1) ∷ on 1 (act.Hear 2) ∷ on 2 (act.Hear 3) ∷ on 2 act.Return ∷
    []) ≡ lines (
    (codes "1 send 0 b101022cce28e541af04eb3d7d0923f61094a959427ec03c4d1d2818699e4fc21f0bc4af47a2f7b12d3f281569890cdb4469c74874f29da"
    ++ codes "1cd502290b7f37c5812df6b2870f37d8a3a700dd5a2736165d7395ecb43bd9b748adbf2b76375fd85c8a14eb4a81238edd27f74ee0bb2ed658d00897"
    ++ codes "a29a54f810e2dc0413a941e5bb5adf3e79f8fb56af64360fdbd2d140f0fc418dc5871e7faf702240e8059f0f47a70370e68abbe9d7a5de571c78a296"
    ++ codes "b7a5db34a65ecaa18078e9d0d410d3b42bc9c7b8374ef7d9ba1e372e5b56a2d2c6f4462f68f9ed9cb723ae4071dc70a072c944b86c5d62b9323c1a70"
    ++ codes "9f242aaef43383655ad24973b079b858d73a4b5c38b : not-member") ∷
    codes "2 join 2 : joined 1" ∷
    codes "3 join 2 : joined 1" ∷
    codes "4 tick 1 : idle" ∷
    codes "5 send 1 79 : not-member" ∷
    codes "6 join 1 : asked | 1 JoinAsk to all" ∷
    codes "7 hear 0 1 : elsewhere" ∷
    codes "8 hear 0 1 : elsewhere" ∷
    codes "9 hear 2 1 : numbered 2 | 2 Welcome to 1" ∷
    codes "10 hear 3 1 : elsewhere" ∷
    codes "11 hear 0 1 : elsewhere" ∷
    codes "12 hear 3 1 : elsewhere" ∷
    codes "13 hear 1 2 : welcomed 2 | 3 Fetch to 2" ∷
    codes "14 hear 2 3 : served 2 | 4 Piece to 1 | 5 Piece to 1" ∷
    codes "15 return 2 : running 1" ∷
    codes "group 1 view 1.2 2" ∷
    codes "group 2 join 1" ∷
    codes "log 1 empty" ∷
    codes "log 2 empty" ∷
    codes "lawful" ∷
    [])

abbrev pub Lives7 : Type 0
Lives7 = play_text_of (rules_with (2 ∷ []) 0 3 4) (
    on 2 (act.Done 2) ∷ on 0 act.Stop ∷ on 2 (act.Send []) ∷ on 1 (act.Done 1) ∷ on 2 act.Tick ∷ on 2 act.Tick ∷ on 0 act.Return ∷ on 0 act.Join ∷
    on 2 (act.Hear 1) ∷ on 1 (act.Hear 1) ∷ on 2 (act.Hear 1) ∷
    on 1 (act.Send (222 ∷ 43 ∷ 64 ∷ 174 ∷ 47 ∷ 66 ∷ 224 ∷ 232 ∷ 177 ∷ 231 ∷ 210 ∷ 82 ∷ 210 ∷ 206 ∷ 28 ∷ 110 ∷ 169 ∷ 40 ∷ 121 ∷ 79 ∷ 138 ∷ 148 ∷ 219 ∷
    122 ∷ 126 ∷ 218 ∷ 230 ∷ 245 ∷ 138 ∷ 70 ∷ 160 ∷ 167 ∷ 74 ∷ 39 ∷ 210 ∷ 160 ∷ 253 ∷ 0 ∷ 245 ∷ 229 ∷ 127 ∷ 86 ∷ 126 ∷ 9 ∷ 99 ∷ 41 ∷ 202 ∷ 140 ∷ 45 ∷
    216 ∷ 148 ∷ 239 ∷ 21 ∷ 77 ∷ 160 ∷ 58 ∷ 89 ∷ 13 ∷ 189 ∷ 236 ∷ 105 ∷ 58 ∷ 224 ∷ 76 ∷ 152 ∷ 149 ∷ 185 ∷ 227 ∷ 63 ∷ 200 ∷ 31 ∷ 53 ∷ 186 ∷ 234 ∷ 16 ∷
    233 ∷ 1 ∷ 237 ∷ 239 ∷ 129 ∷ 4 ∷ 85 ∷ 44 ∷ 184 ∷ 235 ∷ 164 ∷ 242 ∷ 246 ∷ 106 ∷ 238 ∷ 88 ∷ 143 ∷ 24 ∷ 220 ∷ 163 ∷ 136 ∷ 223 ∷ 113 ∷ 188 ∷ 125 ∷ 236
    ∷ 120 ∷ 36 ∷ 188 ∷ 182 ∷ 238 ∷ 62 ∷ 24 ∷ 170 ∷ 208 ∷ 221 ∷ 11 ∷ 181 ∷ 155 ∷ 3 ∷ 216 ∷ 198 ∷ 59 ∷ 238 ∷ 30 ∷ 203 ∷ 101 ∷ 158 ∷ 228 ∷ 168 ∷ 69 ∷ 100
    ∷ 176 ∷ 153 ∷ 17 ∷ 37 ∷ 151 ∷ 167 ∷ 134 ∷ 197 ∷ 149 ∷ 220 ∷ 118 ∷ 249 ∷ 45 ∷ 50 ∷ 92 ∷ 217 ∷ 185 ∷ 82 ∷ 115 ∷ 42 ∷ 103 ∷ 33 ∷ 17 ∷ 147 ∷ 219 ∷ 232
    ∷ 89 ∷ 197 ∷ 12 ∷ 76 ∷ 28 ∷ 53 ∷ 210 ∷ 220 ∷ 215 ∷ 13 ∷ 183 ∷ 126 ∷ 202 ∷ 166 ∷ 247 ∷ 236 ∷ 217 ∷ 143 ∷ 221 ∷ 101 ∷ 87 ∷ 42 ∷ 160 ∷ 217 ∷ 146 ∷
    195 ∷ 233 ∷ 127 ∷ 7 ∷ 92 ∷ 69 ∷ 190 ∷ 109 ∷ 76 ∷ 71 ∷ 117 ∷ 139 ∷ 88 ∷ 133 ∷ 71 ∷ 211 ∷ 40 ∷ 181 ∷ 169 ∷ 109 ∷ 173 ∷ 238 ∷ 75 ∷ 253 ∷ 119 ∷ 148 ∷
    243 ∷ 45 ∷ 99 ∷ 54 ∷ 73 ∷ 97 ∷ 90 ∷ 68 ∷ 47 ∷ 100 ∷ 214 ∷ 46 ∷ 67 ∷ 179 ∷ 5 ∷ 215 ∷ 169 ∷ 246 ∷ 2 ∷ 194 ∷ 86 ∷ 200 ∷ 16 ∷ 44 ∷ 1 ∷ 190 ∷ 163 ∷ 209
    ∷ 24 ∷ 149 ∷ 214 ∷ 57 ∷ 45 ∷ 1 ∷ 109 ∷ 223 ∷ 126 ∷ 156 ∷ 101 ∷ 243 ∷ 222 ∷ 50 ∷ 166 ∷ 205 ∷ 188 ∷ 157 ∷ 108 ∷ 188 ∷ 89 ∷ 131 ∷ 223 ∷ 48 ∷ [])) ∷
    on 0 (act.Hear 2) ∷ on 0 (act.Reset 1 0) ∷ on 1 act.Take ∷
    []) ≡ lines (
    codes "1 done 2 2 : unknown" ∷
    codes "2 stop 0 : stopped" ∷
    codes "3 send 2 - : queued 1" ∷
    codes "4 done 1 1 : unknown" ∷
    codes "5 tick 2 : ticked" ∷
    codes "6 tick 2 : ticked" ∷
    codes "7 return 0 : returned 2" ∷
    codes "8 join 0 : asked | 1 JoinAsk to all" ∷
    codes "9 hear 2 1 : numbered 3 | 2 Welcome to 0/2" ∷
    codes "10 hear 1 1 : elsewhere" ∷
    codes "11 hear 2 1 : welcomed 3 | 3 Welcome to 0/2" ∷
    (codes "12 send 1 de2b40ae2f42e0e8b1e7d252d2ce1c6ea928794f8a94db7a7edae6f58a46a0a74a27d2a0fd00f5e57f567e096329ca8c2dd894ef154da0"
    ++ codes "3a590dbdec693ae04c9895b9e33fc81f35baea10e901edef8104552cb8eba4f2f66aee588f18dca388df71bc7dec7824bcb6ee3e18aad0dd0bb59b03"
    ++ codes "d8c63bee1ecb659ee4a84564b099112597a786c595dc76f92d325cd9b952732a67211193dbe859c50c4c1c35d2dcd70db77ecaa6f7ecd98fdd65572a"
    ++ codes "a0d992c3e97f075c45be6d4c47758b588547d328b5a96dadee4bfd7794f32d633649615a442f64d62e43b305d7a9f602c256c8102c01bea3d11895d6"
    ++ codes "392d016ddf7e9c65f3de32a6cdbc9d6cbc5983df30 : not-member") ∷
    codes "13 hear 0 2 : welcomed 3 | 4 Fetch to 2" ∷
    codes "14 reset 0 1 : not-member" ∷
    codes "15 take 1 : not-member" ∷
    codes "group 1 view 1.2 2" ∷
    codes "group 2 data 2 1 -" ∷
    codes "group 3 join 0/2" ∷
    codes "log 0/2 empty" ∷
    codes "log 2 empty" ∷
    codes "lawful" ∷
    [])

abbrev pub Lives8 : Type 0
Lives8 = play_text_of (rules_with (0 ∷ 2 ∷ []) 2 5 0) (
    on 0 act.Take ∷ on 2 act.Take ∷ on 0 (act.Reset 1 2) ∷ on 1 act.Take ∷ on 2 (act.Hear 1) ∷ on 1 (act.Send []) ∷ on 1 act.Take ∷ on 1 (act.Hear 1)
    ∷
    on 1 act.Take ∷ on 0 (act.GiveUp 2) ∷ on 0 (act.Hear 2) ∷ on 2 (act.Hear 3) ∷
    on 1 (act.Send (12 ∷ 62 ∷ 191 ∷ 166 ∷ 223 ∷ 164 ∷ 68 ∷ 118 ∷ 206 ∷ 0 ∷ 109 ∷ 254 ∷ 161 ∷ 179 ∷ 36 ∷ 217 ∷ 203 ∷ 49 ∷ 83 ∷ 20 ∷ 1 ∷ 190 ∷ 213 ∷ 227
    ∷ 215 ∷ 119 ∷ 62 ∷ 194 ∷ 5 ∷ 198 ∷ 33 ∷ 245 ∷ 116 ∷ 147 ∷ 146 ∷ 72 ∷ 237 ∷ 27 ∷ 35 ∷ 90 ∷ [])) ∷
    on 1 act.Take ∷ on 0 act.Take ∷ on 0 (act.Hear 4) ∷ on 2 act.Tick ∷ on 0 (act.Hear 6) ∷ on 1 act.Take ∷ on 0 act.Join ∷ on 0 act.Take ∷
    on 1 (act.Send (138 ∷ 10 ∷ 220 ∷ 151 ∷ 133 ∷ [])) ∷ on 1 act.Take ∷ on 1 (act.Reset 3 1) ∷ on 1 (act.Reset 2 2) ∷ on 2 (act.Hear 3) ∷
    on 0 (act.Reset 1 2) ∷ on 2 (act.Hear 3) ∷ on 2 (act.Reset 1 2) ∷ on 1 act.Take ∷
    []) ≡ lines (
    codes "1 take 0 : took 1 view 1.0 0,2" ∷
    codes "2 take 2 : took 1 view 1.0 0,2" ∷
    codes "3 reset 0 1 : waiting 2 | 1 Invite to 2" ∷
    codes "4 take 1 : not-member" ∷
    codes "5 hear 2 1 : voted | 2 Vote to 0" ∷
    codes "6 send 1 - : not-member" ∷
    codes "7 take 1 : not-member" ∷
    codes "8 hear 1 1 : not-addressed" ∷
    codes "9 take 1 : not-member" ∷
    codes "10 giveup 0 2 : not-stopped" ∷
    codes "11 hear 0 2 : decided 2 0,2 | 3 Result to 2" ∷
    codes "12 hear 2 3 : stored 2 | 4 Ack to 0" ∷
    codes "13 send 1 0c3ebfa6dfa44476ce006dfea1b324d9cb31531401bed5e3d7773ec205c621f574939248ed1b235a : not-member" ∷
    codes "14 take 1 : not-member" ∷
    codes "15 take 0 : empty" ∷
    codes "16 hear 0 4 : accepted 2 | 5 Accept to 2" ∷
    codes "17 tick 2 : ticked | 6 Ack to 0" ∷
    codes "18 hear 0 6 : noted" ∷
    codes "19 take 1 : not-member" ∷
    codes "20 join 0 : joined 1" ∷
    codes "21 take 0 : took 2 view 2.0 0,2" ∷
    codes "22 send 1 8a0adc9785 : not-member" ∷
    codes "23 take 1 : not-member" ∷
    codes "24 reset 1 3 r1 : not-member" ∷
    codes "25 reset 1 2 : not-member" ∷
    codes "26 hear 2 3 : known | 7 Ack to 0" ∷
    codes "27 reset 0 1 : waiting 2 | 8 Invite to 2" ∷
    codes "28 hear 2 3 : known | 9 Ack to 0" ∷
    codes "29 reset 2 1 : waiting 0 | 10 Invite to 0" ∷
    codes "30 take 1 : not-member" ∷
    codes "group 1 view 1.0 0,2" ∷
    codes "group 2 view 2.0 0,2" ∷
    codes "log 0 1 view 1.0 0,2" ∷
    codes "log 0 2 view 2.0 0,2" ∷
    codes "log 2 1 view 1.0 0,2" ∷
    codes "lawful" ∷
    [])

abbrev pub Lives9 : Type 0
Lives9 = play_text_of (rules_with (0 ∷ 1 ∷ 2 ∷ 3 ∷ 4 ∷ []) 2 64 4) (
    on 4 (act.Done 3) ∷ on 3 act.Leave ∷ on 2 (act.Hear 1) ∷ on 0 (act.Hear 1) ∷ on 1 (act.Hear 1) ∷
    on 2 (act.Send (1 ∷ 126 ∷ 223 ∷ 208 ∷ 1 ∷ 125 ∷ 19 ∷ 159 ∷ 189 ∷ 51 ∷ 215 ∷ 43 ∷ 138 ∷ 9 ∷ 60 ∷ 113 ∷ 113 ∷ 240 ∷ 95 ∷ 166 ∷ 214 ∷ 121 ∷ 28 ∷ 134
    ∷ 173 ∷ 209 ∷ 122 ∷ 60 ∷ 238 ∷ 20 ∷ 23 ∷ 71 ∷ 144 ∷ 40 ∷ 180 ∷ 49 ∷ 91 ∷ 186 ∷ 131 ∷ 14 ∷ 181 ∷ 213 ∷ 226 ∷ 159 ∷ 73 ∷ 52 ∷ 171 ∷ 14 ∷ 148 ∷ 5 ∷
    166 ∷ 100 ∷ 235 ∷ 68 ∷ 2 ∷ 33 ∷ 163 ∷ 200 ∷ 97 ∷ 242 ∷ 33 ∷ 33 ∷ 13 ∷ 209 ∷ 0 ∷ 253 ∷ 189 ∷ 206 ∷ 55 ∷ 163 ∷ 255 ∷ 86 ∷ 112 ∷ 223 ∷ 162 ∷ 82 ∷ 253
    ∷ 246 ∷ 100 ∷ 7 ∷ 78 ∷ 174 ∷ 65 ∷ 175 ∷ 168 ∷ 151 ∷ 193 ∷ 39 ∷ 182 ∷ 56 ∷ 55 ∷ 228 ∷ 88 ∷ 49 ∷ 212 ∷ 67 ∷ 43 ∷ 155 ∷ 149 ∷ 59 ∷ 103 ∷ 80 ∷ 69 ∷ 82
    ∷ 154 ∷ 247 ∷ 166 ∷ 174 ∷ 60 ∷ 192 ∷ 50 ∷ 202 ∷ 212 ∷ 103 ∷ 69 ∷ 32 ∷ 95 ∷ 204 ∷ 43 ∷ 28 ∷ 7 ∷ 71 ∷ 46 ∷ 184 ∷ 255 ∷ 158 ∷ 169 ∷ 124 ∷ 181 ∷ 235 ∷
    203 ∷ 4 ∷ 106 ∷ 175 ∷ 46 ∷ 74 ∷ 200 ∷ 233 ∷ 242 ∷ 164 ∷ 61 ∷ 149 ∷ 51 ∷ 21 ∷ 109 ∷ 99 ∷ 241 ∷ 52 ∷ 29 ∷ 102 ∷ 162 ∷ 64 ∷ 161 ∷ 214 ∷ 177 ∷ 249 ∷
    190 ∷ 137 ∷ 203 ∷ 90 ∷ 124 ∷ 33 ∷ 153 ∷ 208 ∷ 9 ∷ 66 ∷ 186 ∷ 232 ∷ 120 ∷ 2 ∷ 86 ∷ 24 ∷ 237 ∷ 51 ∷ 154 ∷ 79 ∷ 225 ∷ 170 ∷ 118 ∷ 125 ∷ 54 ∷ 189 ∷ 1
    ∷ 77 ∷ 224 ∷ 41 ∷ 69 ∷ 248 ∷ 30 ∷ 215 ∷ 17 ∷ 18 ∷ 125 ∷ 208 ∷ 208 ∷ 124 ∷ 13 ∷ 58 ∷ 16 ∷ 151 ∷ 114 ∷ 116 ∷ 51 ∷ 12 ∷ 246 ∷ 228 ∷ 43 ∷ 57 ∷ 181 ∷
    151 ∷ 81 ∷ 235 ∷ 191 ∷ 230 ∷ 124 ∷ 179 ∷ 214 ∷ 213 ∷ 240 ∷ 94 ∷ 234 ∷ 35 ∷ 12 ∷ 203 ∷ 69 ∷ 110 ∷ 198 ∷ 18 ∷ 114 ∷ 250 ∷ 176 ∷ 241 ∷ 86 ∷ 249 ∷ 216
    ∷ 238 ∷ 245 ∷ 205 ∷ 132 ∷ 123 ∷ 66 ∷ 143 ∷ 103 ∷ 64 ∷ 156 ∷ 30 ∷ 233 ∷ 242 ∷ 150 ∷ 57 ∷ 47 ∷ 171 ∷ 20 ∷ 243 ∷ 231 ∷ 197 ∷ [])) ∷
    on 3 (act.Hear 2) ∷ on 1 (act.Hear 2) ∷ on 2 (act.Hear 2) ∷ on 4 (act.Hear 1) ∷ on 2 (act.Hear 2) ∷ on 1 act.Take ∷ on 0 (act.Hear 3) ∷
    on 0 (act.Hear 4) ∷ on 1 (act.Hear 3) ∷ on 0 (act.Hear 1) ∷ on 2 (act.Hear 6) ∷ on 1 (act.Hear 2) ∷ on 3 (act.Hear 2) ∷ on 3 (act.Hear 3) ∷
    on 1 (act.Hear 6) ∷ on 2 (act.Hear 6) ∷ on 0 (act.Hear 5) ∷ on 2 (act.Hear 1) ∷ on 1 act.Leave ∷ on 0 act.Take ∷ on 0 (act.Hear 7) ∷
    on 1 (act.Hear 9) ∷ on 1 (act.Send (24 ∷ [])) ∷ on 4 act.Return ∷
    []) ≡ lines (
    codes "1 done 4 3 : unknown" ∷
    codes "2 leave 3 : asked | 1 LeaveAsk to 0,1,2,4" ∷
    codes "3 hear 2 1 : elsewhere" ∷
    codes "4 hear 0 1 : numbered 2 | 2 Bcast to 1,2,3,4" ∷
    codes "5 hear 1 1 : elsewhere" ∷
    (codes "6 send 2 017edfd0017d139fbd33d72b8a093c7171f05fa6d6791c86add17a3cee1417479028b4315bba830eb5d5e29f4934ab0e9405a664eb44022"
    ++ codes "1a3c861f221210dd100fdbdce37a3ff5670dfa252fdf664074eae41afa897c127b63837e45831d4432b9b953b675045529af7a6ae3cc032cad467452"
    ++ codes "05fcc2b1c07472eb8ff9ea97cb5ebcb046aaf2e4ac8e9f2a43d9533156d63f1341d66a240a1d6b1f9be89cb5a7c2199d00942bae878025618ed339a4"
    ++ codes "fe1aa767d36bd014de02945f81ed711127dd0d07c0d3a10977274330cf6e42b39b59751ebbfe67cb3d6d5f05eea230ccb456ec61272fab0f156f9d8e"
    ++ codes "ef5cd847b428f67409c1ee9f296392fab14f3e7c5 : queued 1 | 3 Spread to 0,1,3,4") ∷
    codes "7 hear 3 2 : stored 2" ∷
    codes "8 hear 1 2 : stored 2 | 4 Ack to 0" ∷
    codes "9 hear 2 2 : stored 2 | 5 Ack to 0" ∷
    codes "10 hear 4 1 : elsewhere" ∷
    codes "11 hear 2 2 : known" ∷
    codes "12 take 1 : took 1 view 1.0 0,1,2,3,4" ∷
    codes "13 hear 0 3 : numbered 3 | 6 Order to 1,2,4" ∷
    codes "14 hear 0 4 : noted" ∷
    codes "15 hear 1 3 : kept" ∷
    codes "16 hear 0 1 : again" ∷
    codes "17 hear 2 6 : stored 3 | 7 Ack to 0" ∷
    codes "18 hear 1 2 : known" ∷
    codes "19 hear 3 2 : known" ∷
    codes "20 hear 3 3 : kept" ∷
    codes "21 hear 1 6 : stored 3 | 8 Ack to 0" ∷
    codes "22 hear 2 6 : known" ∷
    codes "23 hear 0 5 : accepted 2 | 9 Accept to 1,2,4" ∷
    codes "24 hear 2 1 : elsewhere" ∷
    codes "25 leave 1 : asked | 10 LeaveAsk to 0,2,4" ∷
    codes "26 take 0 : took 1 view 1.0 0,1,2,3,4" ∷
    codes "27 hear 0 7 : noted" ∷
    codes "28 hear 1 9 : advanced 2" ∷
    codes "29 send 1 18 : leaving" ∷
    codes "30 return 4 : running 1" ∷
    codes "group 1 view 1.0 0,1,2,3,4" ∷
    codes "group 2 leave 3" ∷
    codes "log 0 1 view 1.0 0,1,2,3,4" ∷
    codes "log 1 1 view 1.0 0,1,2,3,4" ∷
    codes "log 2 empty" ∷
    codes "log 3 empty" ∷
    codes "log 4 empty" ∷
    codes "lawful" ∷
    [])
