-- Names and sets of names. A name is the number of its byte: its place, and sixteen times its life less one.
-- A set of names has at most one life of each place: it is the list of the sixteen lives, 0 where a place isn't there.
use Rattle.std.specs.Prelude.{◌≡◌, ℕ, zero, suc, ◌+◌, ◌-◌, ◌*◌, ◌/◌, ◌%◌, ◌≤◌, max, List, [], ◌∷◌, length, map, Bool, true, if◌then◌else◌, ◌==◌, ◌||◌, ◌&&◌}
use Rattle.std.specs.Prelude.{nat_lt, Option, Some, None, slice_index, slice_set, count_by, EachIndex, replicate}
use Rattle.std.specs.List.{range_with_len, list_all}
use Rattle.std.specs.Ordering.{nat_cmp, on, then_cmp}
use Rattle.std.specs.declared.cmp.Ordering.{Ordering}

-- where a name stands, 0 to 15
abbrev pub place_of_name : ℕ → ℕ
place_of_name name = name % 16

-- which life of its place a name is, 1 to 16
abbrev pub life_of_name : ℕ → ℕ
life_of_name name = name / 16 + 1

-- the name of a place's life
abbrev pub name_of_place_and_life : ℕ → ℕ → ℕ
name_of_place_and_life place life = place + 16 * (life - 1)

-- names are ordered by place, then by life
abbrev pub compare_names : ℕ → ℕ → Ordering
compare_names = then_cmp (on (λ n. place_of_name n) nat_cmp) (on (λ n. life_of_name n) nat_cmp)

-- the same order as a number
abbrev pub rank_of_name : ℕ → ℕ
rank_of_name name = 16 * place_of_name name + name / 16

abbrev pub name_is_less : ℕ → ℕ → Bool
name_is_less a b = nat_lt (rank_of_name a) (rank_of_name b)

-- the list whose item at each place is what the function gives
unfoldable pub list_by_place : {A : Type 0} → (ℕ → A) → List A
list_by_place f = map f (range_with_len 0 16)

-- a life of each of sixteen places, or 0
pub record IsSetOfNames (set : List ℕ) : Type 0 where
  pub places : length set ≡ 16
  pub lives : EachIndex set (λ place. slice_index set place ≤ 16)

abbrev pub empty_set_of_names : List ℕ
empty_set_of_names = replicate 16 0

-- the name is in the set: this life of its place is there
abbrev pub has : List ℕ → ℕ → Bool
has set name = slice_index set (place_of_name name) == life_of_name name

-- with the name, in place of another life
abbrev pub with_name : List ℕ → ℕ → List ℕ
with_name set name = slice_set set (place_of_name name) (life_of_name name)

-- without exactly this name
abbrev pub without_name : List ℕ → ℕ → List ℕ
without_name set name = if has set name then slice_set set (place_of_name name) 0 else set

-- the names of both, with the greater life of each place
abbrev pub union_of_names : List ℕ → List ℕ → List ℕ
union_of_names a b = list_by_place (λ place. max (slice_index a place) (slice_index b place))

-- the names of the first that the second doesn't have
abbrev pub names_without : List ℕ → List ℕ → List ℕ
names_without a b = list_by_place (λ place. if slice_index a place == slice_index b place then 0 else slice_index a place)

-- each name of the first is one of the second
abbrev pub names_are_within : List ℕ → List ℕ → Bool
names_are_within a b = list_all (λ place. (slice_index a place == 0) || (slice_index a place == slice_index b place)) (range_with_len 0 16)

-- how many names there are
abbrev pub size : List ℕ → ℕ
size set = count_by (λ life. nat_lt 0 life) set

-- the names in order, of places from one on
abbrev pub names_from : ℕ → List ℕ → List ℕ
names_from place [] = []
names_from place (zero ∷ lives) = names_from (place + 1) lives
names_from place (suc before ∷ lives) = name_of_place_and_life place (suc before) ∷ names_from (place + 1) lives

-- the names of a set in order
abbrev pub names_of : List ℕ → List ℕ
names_of set = names_from 0 set

abbrev pub first_name_of : List ℕ → Option ℕ
first_name_of [] = None
first_name_of (name ∷ names) = Some name

-- the lowest name
abbrev pub lowest_name_of : List ℕ → Option ℕ
lowest_name_of set = first_name_of (names_of set)

-- the mask of a set's places: bit 0 is the first place's, bit 1 the next one's, and so on
unfoldable pub mask_of_names : List ℕ → ℕ
mask_of_names [] = 0
mask_of_names (life ∷ lives) = (if life == 0 then 0 else 1) + 2 * mask_of_names lives

-- a set's lives less one in four bits each, the lowest bits for the first place, and 0 where a place isn't there
unfoldable pub lives_of_names : List ℕ → ℕ
lives_of_names [] = 0
lives_of_names (life ∷ lives) = (life - 1) + 16 * lives_of_names lives

-- the lives of so many places, by a mask and by lives less one
unfoldable pub places_by_mask : ℕ → ℕ → ℕ → List ℕ
places_by_mask zero mask lives = []
places_by_mask (suc places) mask lives = (if mask % 2 == 0 then 0 else lives % 16 + 1) ∷ places_by_mask places (mask / 2) (lives / 16)

-- where the mask hasn't a place, its four bits are 0
unfoldable pub lives_are_within_mask : ℕ → ℕ → ℕ → Bool
lives_are_within_mask zero mask lives = true
lives_are_within_mask (suc places) mask lives = (if mask % 2 == 0 then lives % 16 == 0 else true) && lives_are_within_mask places (mask / 2) (lives / 16)

-- the set with this mask and these lives, and whether there is one
abbrev pub names_of_mask_and_lives : ℕ → ℕ → List ℕ
names_of_mask_and_lives mask lives = places_by_mask 16 mask lives

abbrev pub are_mask_and_lives : ℕ → ℕ → Bool
are_mask_and_lives mask lives = lives_are_within_mask 16 mask lives

-- life 1 of each place of a mask
abbrev pub first_lives_of_mask : ℕ → List ℕ
first_lives_of_mask mask = names_of_mask_and_lives mask 0
