-- What may found a group, as a test.
use Rattle.std.proofs.Common.{◌≡◌, ℕ, ◌≤◌, List, [], ◌∷◌, length, drop, take, take_all, length-drop, ◌-◌, Bor, slice_index, slice_index_or, option_and_then, Bool, true, false, Option, Some, None, IsSome, IfSome, ◌↔◌, EachIndex, nat_le, refl, sym, ap, ◌∙◌, if◌then◌else◌, arith}
use Rattle.std.specs.List.{list_all}
use Rattle.std.proofs.lemmas.List.Sums.{AllPass-from_list_all, list_all-from_AllPass}
use Rattle.std.proofs.lemmas.List.Elements.{All-get_or, All-from_get_or}
use Rattle.std.proofs.lemmas.Bool.Decides.{nat_tests}
use Rattle.am_base.specs.Names.{IsSetOfNames}
use Rattle.am_base.specs.Founding.{Rules, MayFound, rules_of}
use Rattle.am_cli_words.specs.declared.node.Options.{Options}
use Rattle.am_cli_words.specs.Nodes.{may_found, founding_of, put_option, options_from}
use Rattle.am_cli_words.proofs.Words.{texts_of_borrowed_words, texts_of_two_words}

-- the same of each place, and of each element
abbrev IsFirst : ℕ → Type 0
IsFirst life = nat_le life 1 ≡ true

first_test : (life : ℕ) → life ≤ 1 → IsFirst life
first_test life low = grind (arith, nat_tests)

first_low : (life : ℕ) → IsFirst life → life ≤ 1
first_low life is = grind (arith, nat_tests)

all_first : (set : List ℕ) → EachIndex set (λ place. slice_index set place ≤ 1) → list_all (λ life. nat_le life 1) set ≡ true
all_first set each = list_all-from_AllPass (λ life. nat_le life 1) set (All-from_get_or IsFirst set 0 (λ place within. first_test _ (each place within)))

each_first : (set : List ℕ) → list_all (λ life. nat_le life 1) set ≡ true → EachIndex set (λ place. slice_index set place ≤ 1)
each_first set all = λ place within. first_low _ (All-get_or IsFirst set place 0 within (AllPass-from_list_all (λ life. nat_le life 1) set all))

test_of : (r : Rules) → MayFound r → may_found r ≡ true
test_of r may =
    let each = all_first r.founders may.first_lives in
    let some = may.somebody in
    let a = may.resilience_within in
    let b = may.window_least in
    let c = may.window_most in
    let d = may.pb_up_to_within in
    grind (arith, nat_tests)

of_test : (r : Rules) → IsSetOfNames r.founders → may_found r ≡ true → MayFound r
of_test r set is = record {
  names = set;
  somebody = grind (arith, nat_tests);
  first_lives = each_first r.founders (grind (arith, nat_tests));
  resilience_within = grind (arith, nat_tests);
  window_least = grind (arith, nat_tests);
  window_most = grind (arith, nat_tests);
  pb_up_to_within = grind (arith, nat_tests);
}

none_by : (b : Bool) (r : Rules) → (b ≡ true → ⊥) → None ≡ (if b then Some r else None)
none_by true r other = absurd (other refl)
none_by false r other = refl

is_none : IsSome {T = Rules} None → ⊥
is_none is = cc

pub founding_found_is_founding_of : (founders : List ℕ) (resilience window pb_up_to : ℕ) (found : Option Rules) → IsSetOfNames founders
    → (IsSome found ↔ MayFound (rules_of founders resilience window pb_up_to)) → IfSome found (λ f. f ≡ rules_of founders resilience window pb_up_to)
    → found ≡ founding_of founders resilience window pb_up_to
founding_found_is_founding_of founders resilience window pb_up_to (Some f) set variant value =
    ap Some value ∙ sym (rw (test_of (rules_of founders resilience window pb_up_to) (variant.0 refl)) refl)
founding_found_is_founding_of founders resilience window pb_up_to None set variant value =
    none_by (may_found (rules_of founders resilience window pb_up_to)) (rules_of founders resilience window pb_up_to)
    (λ is. is_none (variant.1 (of_test (rules_of founders resilience window pb_up_to) set is)))

-- ---- options in turn

pub options_from_no_words : (options : Options) (words : List (Bor (List ℕ))) → length words ≡ 0 → Some options ≡ options_from options (texts_of_borrowed_words words)
unfolding options_from
options_from_no_words options [] none = refl
options_from_no_words options (a ∷ ws) none = absurd (omega arith)

pub options_from_one_word : (options : Options) (words : List (Bor (List ℕ))) → length words ≡ 1 → None ≡ options_from options (texts_of_borrowed_words words)
unfolding options_from
options_from_one_word options [] one = absurd (omega arith)
options_from_one_word options (a ∷ []) one = refl
options_from_one_word options (a ∷ b ∷ ws) one = absurd (omega arith)

pub options_from_two_words : (options : Options) (words : List (Bor (List ℕ))) (d e : Bor (List ℕ)) (r : Option Options) → 2 ≤ length words
    → r ≡ put_option options (slice_index_or words 0 d).now (slice_index_or words 1 e).now
    → option_and_then (λ more. options_from more (texts_of_borrowed_words (take (length words - 2) (drop 2 words)))) r ≡ options_from options (texts_of_borrowed_words words)
unfolding options_from
options_from_two_words options words d e r two is =
    let rest : take (length words - 2) (drop 2 words) ≡ drop 2 words = take_all _ _ (omega (arith, length-drop 2 words)) in
    ap (option_and_then (λ more. options_from more (texts_of_borrowed_words (take (length words - 2) (drop 2 words))))) is
    ∙ ap (λ (ws : List (Bor (List ℕ))). option_and_then (λ more. options_from more (texts_of_borrowed_words ws)) (put_option options (slice_index_or words 0 d).now (slice_index_or words 1 e).now)) rest
    ∙ ap (options_from options) (sym (texts_of_two_words words d e two))
