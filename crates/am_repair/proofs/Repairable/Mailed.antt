-- What a letter of a step tells: its base is that of the node after it, and a Welcome is a sequencer's.
use Rattle.am_repair.proofs.Repairable.RepairedWords.{◌≡◌, ℕ, ◌≤◌, true, List, refl, subst, Image, Stamp, Packet, Letter, Node, is_sequencer, Cause, Says, welcome, piece}
use Rattle.am_repair.proofs.Repairable.RepairedWords.{result, LetterSays}
use Rattle.am_repair.proofs.Repairable.Trims.{LetterHasLowBase}

-- ---- what such a letter says

-- its base is that of its sender
pub said_letter_has_low_base : (m n : Node) (c : Cause) (q : ℕ) (u : Stamp) (low : ℕ) (to : List ℕ) (p : Packet) → low ≤ n.core.base → Says m c n to p → LetterHasLowBase q u low p
said_letter_has_low_base m n c q u low to p most (welcome s l may) = λ mine is. most
said_letter_has_low_base m n c q u low to p most (piece s v stored number e is may at) = λ mine is_. most
said_letter_has_low_base m n c q u low to p most (result _ number names is viewed may) = λ mine is_. most
said_letter_has_low_base m n c q u low to p most _ = tt

-- and so is its name
pub said_letter_of_other_name : (m n : Node) (c : Cause) (q : ℕ) (u : Stamp) (low : ℕ) (to : List ℕ) (p : Packet) → (n.core.who ≡ q → ⊥) → Says m c n to p
    → LetterHasLowBase q u low p
said_letter_of_other_name m n c q u low to p other (welcome s l may) = λ mine is. absurd (other mine)
said_letter_of_other_name m n c q u low to p other (piece s v stored number e is may at) = λ mine is_. absurd (other mine)
said_letter_of_other_name m n c q u low to p other (result _ number names is viewed may) = λ mine is_. absurd (other mine)
said_letter_of_other_name m n c q u low to p other _ = tt

-- a Welcome is a sequencer's, of its promise and its base
pub record NodeWelcomesFromBase (n : Node) (u : Stamp) (base : ℕ) : Type 0 where
  pub leads : is_sequencer n ≡ true
  pub stamp : u ≡ n.core.promise
  pub base_ : base ≡ n.core.base

abbrev IfWelcome : Node → Packet → Type 0
IfWelcome n (Packet.Welcome from u base join image) = NodeWelcomesFromBase n u base
IfWelcome n _ = Unit {0}

if_welcome : (m n : Node) (c : Cause) (to : List ℕ) (p : Packet) → Says m c n to p → IfWelcome n p
if_welcome m n c to p (welcome s l may) = record { leads = l; stamp = refl; base_ = refl }
if_welcome m n c to p _ = tt

pub welcome_is_said_by_sequencer : (m n : Node) (c : Cause) (l : Letter) (from : ℕ) (u : Stamp) (base join : ℕ) (image : Image) → LetterSays m c n l
    → l.packet ≡ Packet.Welcome from u base join image → NodeWelcomesFromBase n u base
welcome_is_said_by_sequencer m n c l from u base join image h is = subst (IfWelcome n) is (if_welcome m n c l.to l.packet h.says)
