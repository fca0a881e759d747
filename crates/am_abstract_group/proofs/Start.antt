-- What a group keeps at its start.
use Rattle.am_abstract_group.proofs.Words.{◌≡◌, ℕ, ◌<◌, ◌≤◌, nat_le, if◌then◌else◌, Bool, true, false, List, [], length, refl, sym, subst, arith, nat_tests}
use Rattle.am_abstract_group.proofs.Words.{Entry, View, has, no_stamp, blank, fits, image_after_entries, IsBeginningOf, IsGoodList, is_member_at_end, key_of_stamp, list_begins_itself, empty_list_begins_all, beginning_is_no_longer, begins_not_longer_is_same}
use Rattle.am_abstract_group.proofs.Words.{begins_push_or_is_push, proper_beginning_is_shorter, empty_list_is_good, pushed_list_is_good, empty_list_has_no_member, member_of_pushed_view_members, name_in_view_is_member, view_after_pushed_view, list_with_chosen_view, GroupMayBegin}
use Rattle.am_abstract_group.proofs.Words.{first_stamp, first_choice, group_start, NodeIsSound, GroupKeeps}
use Rattle.am_abstract_group.proofs.{Puts.either_of_two_gives}

first_fits : (founders : List ℕ) (first resilience : ℕ) → has founders first ≡ true → fits blank (View (first_choice founders first resilience).view) ≡ true
unfolding fits
first_fits founders first resilience h = let z : nat_le 0 resilience ≡ true = grind (arith, nat_tests) in rw (h, z) refl

module _ (founders : List ℕ) (first resilience : ℕ) (may : GroupMayBegin founders first resilience) where
  first_good : IsGoodList (list_with_chosen_view (first_choice founders first resilience))
  unfolding image_after_entries
  first_good = pushed_list_is_good [] (View (first_choice founders first resilience).view) empty_list_is_good (first_fits founders first resilience may.among) may.small

  nobody : (a : List Entry) (j : ℕ) → length a ≤ 0 → is_member_at_end a j ≡ true → ⊥
  nobody a j short m = empty_list_has_no_member j (subst (λ l. is_member_at_end l j ≡ true) (sym (begins_not_longer_is_same (empty_list_begins_all a) short)) m)

  member_first : (a : List Entry) (j : ℕ) → IsBeginningOf a (list_with_chosen_view (first_choice founders first resilience)) → is_member_at_end a j ≡ true → has founders j ≡ true
  member_first a j h m = either_of_two_gives (begins_push_or_is_push {a = a} {b = []} (View (first_choice founders first resilience).view) h)
      (λ x. absurd (nobody a j (beginning_is_no_longer x) m))
      (λ x. member_of_pushed_view_members [] (first_choice founders first resilience).view j
      (subst (λ l. is_member_at_end l j ≡ true) x m))

  first_member : (j : ℕ) → has founders j ≡ true → is_member_at_end (list_with_chosen_view (first_choice founders first resilience)) j ≡ true
  first_member j h = name_in_view_is_member [] (first_choice founders first resilience).view j first_good h

  first_ok : (b : Bool) (j : ℕ) → has founders j ≡ b → NodeIsSound (group_start founders first resilience).views (list_with_chosen_view (first_choice founders first resilience)) j
      (record {
        list = if b then list_with_chosen_view (first_choice founders first resilience) else [];
        has_log = b;
        stopped = false;
        departed = false;
        leaving = false;
        start = 1;
        promise = if b then first_stamp first else no_stamp;
        told = 0;
        acc = 0;
        ballot = false;
      })
  first_ok true j h = record {
    small = may.small;
    list = λ u. list_begins_itself (list_with_chosen_view (first_choice founders first resilience));
    blank = λ z. absurd (cc);
    fronts = record { told = omega arith; acc = omega arith; within = omega arith; delivered = empty_list_begins_all (list_with_chosen_view (first_choice founders first resilience)) };
    leads = λ l. record { chain = refl; member = first_member j h };
    promised = λ t m. absurd (empty_list_has_no_member j m);
    stays = λ t l a b m. first_member j h;
    joined = λ l. record { accepted = omega arith; member = first_member j h };
    own = λ u a d below b m. let x = proper_beginning_is_shorter below in let y = beginning_is_no_longer b in let z : length a ≤ 0 = omega arith in absurd (nobody a j z m);
    late = λ u l. absurd (omega arith);
    ballot = λ u b. absurd (cc);
    complete = λ x c t m. list_begins_itself (list_with_chosen_view (first_choice founders first resilience));
    heard = λ x d l. omega arith;
  }
  first_ok false j h =
      let zero_small : 0 < 256 = omega arith in
      record {
        small = zero_small;
        list = λ u. let z = u.log in absurd (cc);
        blank = λ z. refl;
        fronts = record {
          told = omega arith;
          acc = omega arith;
          within = omega arith;
          delivered = empty_list_begins_all (list_with_chosen_view (first_choice founders first resilience));
        };
        leads = λ l. let z = l.up.log in absurd (cc);
        promised = λ t m. absurd (empty_list_has_no_member j m);
        stays = λ t l a b m. let y = member_first a j b m in absurd (cc);
        joined = λ l. absurd (cc);
        own = λ u. let z = u.log in absurd (cc);
        late = λ u l. let z = u.log in absurd (cc);
        ballot = λ u b. absurd (cc);
        complete = λ x c t m. absurd (cc);
        heard = λ x d l. omega arith;
      }

  pub start_group_is_kept : GroupKeeps (group_start founders first resilience)
  start_group_is_kept = record {
    views = record {
      now = grind (arith, nat_tests);
      order = λ x d. grind (arith, nat_tests);
      stamps = λ x d. grind (arith, nat_tests);
      good = first_good;
      view = view_after_pushed_view [] (first_choice founders first resilience).view;
      opens = list_begins_itself (list_with_chosen_view (first_choice founders first resilience));
      complete = λ x d. list_begins_itself (list_with_chosen_view (first_choice founders first resilience));
      marked = λ x d. d;
      some = (key_of_stamp (first_stamp first), grind (arith, nat_tests));
    };
    group = list_begins_itself (list_with_chosen_view (first_choice founders first resilience));
    each = λ j. first_ok (has founders j) j refl;
    shown = λ x j l h. absurd (cc);
    still = λ v l h. absurd (cc);
    short = λ c v l u b h. absurd (cc);
    served = λ c h l u b x. absurd (cc);
    sent = λ x h e. absurd (cc);
    witness = λ n low high. absurd (omega arith);
    departed = λ d h. absurd (cc);
    enough = λ x d holders counts stored much. list_begins_itself (list_with_chosen_view (first_choice founders first resilience));
  }
