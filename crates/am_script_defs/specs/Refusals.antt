-- What a refusal says, and answers that may be refused.
use Rattle.std.specs.Prelude.{◌≡◌, ◌≢◌, ℕ, Result, Ok, Err, MatchResult}
use Rattle.am_script_defs.specs.declared.refusal.ScriptRefusal.{ScriptRefusal}
use Rattle.am_script_defs.specs.declared.refusal.ScriptRefusal.TheVariants.{NotJson, Missing, Unknown, BadValue, OutOfRange, NoMemory}

abbrev pub refusal_number_of : ScriptRefusal → ℕ
refusal_number_of NotJson = 1
refusal_number_of (Missing key place) = 2
refusal_number_of (Unknown place) = 3
refusal_number_of (BadValue key place) = 4
refusal_number_of (OutOfRange key place found least most) = 5
refusal_number_of NoMemory = 6

-- the number of the event or the call that is refused, or 0
abbrev pub refused_place : ScriptRefusal → ℕ
refused_place NotJson = 0
refused_place (Missing key place) = place
refused_place (Unknown place) = place
refused_place (BadValue key place) = place
refused_place (OutOfRange key place found least most) = place
refused_place NoMemory = 0

-- what is read, or the first cause that it can't be
abbrev pub ReadOrRefused : Type 0 → Type 0
ReadOrRefused A = Result A ScriptRefusal

-- the next thing is read where the one before was
infixl 10 ◌>>=◌
abbrev pub ◌>>=◌ : {A B : Type 0} → ReadOrRefused A → (A → ReadOrRefused B) → ReadOrRefused B
(Ok x) >>= f = f x
(Err e) >>= f = Err e

-- the answer is what is read, but for want of memory
abbrev pub Answers : {A : Type 0} → ReadOrRefused A → Result A ScriptRefusal → Type 0
Answers read answer = MatchResult answer (λ x. read ≡ Ok x) (λ e. e ≢ NoMemory → read ≡ Err e)
