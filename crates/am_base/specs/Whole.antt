-- Whole lists, from the first entry on: what each tells by itself, and which begins which.
use Rattle.std.specs.Prelude.{◌≡◌, ℕ, ◌+◌, ◌*◌, ◌<◌, List, [], ◌∷◌, ◌++◌, Bool}
use Rattle.am_base.specs.declared.name.Stamp.{Stamp}
use Rattle.am_base.specs.declared.image.Image.{Image}
use Rattle.am_base.specs.declared.entry.Entry.{Entry}
use Rattle.am_base.specs.declared.entry.Entry.TheVariants.{Data, Join, Leave, View}
use Rattle.am_base.specs.Names.{has, rank_of_name}
use Rattle.am_base.specs.Lists.{blank, image_after_entries, AllEntriesFit, members_of_image}

-- the second list is the first with more entries after it, or the same
pub record IsBeginningOf (short long : List Entry) : Type 0 where
  pub rest : List Entry
  pub same : short ++ rest ≡ long

-- the second has at least one entry more
pub record IsProperBeginningOf (short long : List Entry) : Type 0 where
  pub next : Entry
  pub rest : List Entry
  pub same : short ++ next ∷ rest ≡ long

-- what a whole list tells
abbrev pub image_of_list : List Entry → Image
image_of_list list = image_after_entries blank 1 list

-- the name is a member at its end
unfoldable pub is_member_at_end : List Entry → ℕ → Bool
is_member_at_end list name = has (members_of_image (image_of_list list)) name

unfoldable pub stamp_of_list : List Entry → Stamp
stamp_of_list list = (image_of_list list).view

unfoldable pub resilience_of_list : List Entry → ℕ
resilience_of_list list = (image_of_list list).resilience

-- stamps in order, as numbers: by round, then by name
unfoldable pub key_of_stamp : Stamp → ℕ
key_of_stamp stamp = 256 * stamp.round + rank_of_name stamp.by

-- a View's stamp has a name that a byte can be
abbrev pub ViewNameIsByte : Entry → Type 0
ViewNameIsByte (Data from req body) = Unit {0}
ViewNameIsByte (Join name) = Unit {0}
ViewNameIsByte (Leave name) = Unit {0}
ViewNameIsByte (View v) = v.stamp.by < 256

unfoldable pub AllViewNamesAreBytes : List Entry → Type 0
AllViewNamesAreBytes [] = Unit {0}
AllViewNamesAreBytes (e ∷ es) = ViewNameIsByte e × AllViewNamesAreBytes es

-- each entry fits what stands before it
pub record IsGoodList (list : List Entry) : Type 0 where
  pub fit : AllEntriesFit blank 1 list
  pub small : AllViewNamesAreBytes list

abbrev pub IsNotView : Entry → Type 0
IsNotView (Data from req body) = Unit {0}
IsNotView (Join name) = Unit {0}
IsNotView (Leave name) = Unit {0}
IsNotView (View v) = ⊥
