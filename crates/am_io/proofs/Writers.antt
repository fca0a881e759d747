-- Words that are written one after the other, and what all of them are.
use Rattle.std.proofs.Common.{◌≡◌, ℕ, List, [], ◌++◌, refl, sym, ap, ◌∙◌, subst, append_assoc, append-nil}
use Rattle.std.specs.Fmt.{WritesInCalls}
use Rattle.std.proofs.Output.{writes_in_calls_nil, writes_in_calls_append}
use Rattle.am_io.specs.Writers.{IsLeftToWrite}

module _ {W : Type 0} (writes : W → List ℕ → W → Type 0) where
  pub two_words_written_in_calls : (f g h : W) (a b all : List ℕ) → WritesInCalls writes f a g → WritesInCalls writes g b h → a ++ b ≡ all → WritesInCalls writes f all h
  two_words_written_in_calls f g h a b all one two is = subst (λ (l : List ℕ). WritesInCalls writes f l h) is (writes_in_calls_append writes _ _ _ _ _ one two)

  pub three_words_written_in_calls : (f g h i : W) (a b c all : List ℕ) → WritesInCalls writes f a g → WritesInCalls writes g b h → WritesInCalls writes h c i
      → a ++ (b ++ c) ≡ all → WritesInCalls writes f all i
  three_words_written_in_calls f g h i a b c all one two three is = two_words_written_in_calls f g i a (b ++ c) all one (two_words_written_in_calls g h i b c (b ++ c) two three refl) is

  pub four_words_written_in_calls : (f g h i j : W) (a b c d all : List ℕ) → WritesInCalls writes f a g → WritesInCalls writes g b h → WritesInCalls writes h c i
      → WritesInCalls writes i d j → a ++ (b ++ (c ++ d)) ≡ all → WritesInCalls writes f all j
  four_words_written_in_calls f g h i j a b c d all one two three four is =
      two_words_written_in_calls f g j a (b ++ (c ++ d)) all one (three_words_written_in_calls g h i j b c d (b ++ (c ++ d)) two three four refl) is

  pub five_words_written_in_calls : (f g h i j k : W) (a b c d e all : List ℕ) → WritesInCalls writes f a g → WritesInCalls writes g b h → WritesInCalls writes h c i
      → WritesInCalls writes i d j → WritesInCalls writes j e k → a ++ (b ++ (c ++ (d ++ e))) ≡ all → WritesInCalls writes f all k
  five_words_written_in_calls f g h i j k a b c d e all one two three four five is =
      two_words_written_in_calls f g k a (b ++ (c ++ (d ++ e))) all one (four_words_written_in_calls g h i j k b c d e (b ++ (c ++ (d ++ e))) two three four five refl) is

  pub six_words_written_in_calls : (f g h i j k l : W) (a b c d e x all : List ℕ) → WritesInCalls writes f a g → WritesInCalls writes g b h → WritesInCalls writes h c i
      → WritesInCalls writes i d j → WritesInCalls writes j e k → WritesInCalls writes k x l → a ++ (b ++ (c ++ (d ++ (e ++ x)))) ≡ all
      → WritesInCalls writes f all l
  six_words_written_in_calls f g h i j k l a b c d e x all one two three four five six is =
      two_words_written_in_calls f g l a (b ++ (c ++ (d ++ (e ++ x)))) all one (five_words_written_in_calls g h i j k l b c d e x (b ++ (c ++ (d ++ (e ++ x)))) two three four five six refl) is

  pub seven_words_written_in_calls : (f g h i j k l m : W) (a b c d e x y all : List ℕ) → WritesInCalls writes f a g → WritesInCalls writes g b h → WritesInCalls writes h c i
      → WritesInCalls writes i d j → WritesInCalls writes j e k → WritesInCalls writes k x l → WritesInCalls writes l y m
      → a ++ (b ++ (c ++ (d ++ (e ++ (x ++ y))))) ≡ all → WritesInCalls writes f all m
  seven_words_written_in_calls f g h i j k l m a b c d e x y all one two three four five six seven is =
      two_words_written_in_calls f g m a (b ++ (c ++ (d ++ (e ++ (x ++ y))))) all one
      (six_words_written_in_calls g h i j k l m b c d e x y (b ++ (c ++ (d ++ (e ++ (x ++ y))))) two three four five six seven refl) is

  pub all_words_left_at_start : (start : W) (all : List ℕ) → IsLeftToWrite writes start all start all
  all_words_left_at_start start all = record { done = []; wrote = writes_in_calls_nil writes start; whole = refl }

  pub fewer_words_left_to_write : (start now next : W) (all rest words later : List ℕ) → IsLeftToWrite writes start all now rest → WritesInCalls writes now words next
      → rest ≡ words ++ later → IsLeftToWrite writes start all next later
  fewer_words_left_to_write start now next all rest words later left wrote is = record {
    done = left.done ++ words;
    wrote = writes_in_calls_append writes _ _ _ _ _ left.wrote wrote;
    whole = append_assoc left.done words later ∙ ap (λ (l : List ℕ). left.done ++ l) (sym is) ∙ left.whole;
  }

  pub no_word_left_to_write : (start now : W) (all rest : List ℕ) → IsLeftToWrite writes start all now rest → rest ≡ [] → WritesInCalls writes start all now
  no_word_left_to_write start now all rest left is =
      subst (λ (l : List ℕ). WritesInCalls writes start l now)
      (sym (append-nil left.done) ∙ ap (λ (l : List ℕ). left.done ++ l) (sym is) ∙ left.whole) left.wrote

  -- the last of what is left
  pub last_word_left_is_written : (start now next : W) (all rest words : List ℕ) → IsLeftToWrite writes start all now rest → WritesInCalls writes now words next → rest ≡ words
      → WritesInCalls writes start all next
  last_word_left_is_written start now next all rest words left wrote is =
      no_word_left_to_write start next all [] (fewer_words_left_to_write start now next all rest words [] left wrote (is ∙ sym (append-nil words))) refl
