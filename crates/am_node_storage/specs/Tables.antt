-- What a table keeps.
use Rattle.std.specs.Prelude.{◌≡◌, ℕ, List}
use Rattle.am_base.specs.declared.image.Image.{Image}
use Rattle.am_base.specs.Limits.{ImageIsInRange}
use Rattle.am_base.specs.Lists.{members_of_image}

-- the image, and beside it its members
pub record IsTable (image : Image) (members : List ℕ) : Type 0 where
  pub rows : ImageIsInRange image
  pub names : members ≡ members_of_image image
