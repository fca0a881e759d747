-- What a handle stands for, and what the number of a call says.
use Rattle.std.specs.Prelude.{◌≡◌, [], ℕ, List, Option, Some, None}
use Rattle.std.specs.Box.Ownership.{box_owns}
use Rattle.std.specs.Global.{Global}
use Rattle.std.specs.contracts.impls.GlobalAllocator.TheImpl.{ghosts}
use Rattle.am_cli_words.specs.declared.node.NodeWords.{NodeWords}
use Rattle.am_cli_words.specs.declared.form.Form.TheVariants as form
use Rattle.am_cli_words.specs.Forms.{form_of}
use Rattle.am_c.specs.declared.session.Session.{Session}
use Rattle.am_c.specs.contracts.session.Session.{the_row}
use Rattle.am_c.specs.Sessions.{option_words, IsBehind}
use base.Fml.{Fml, ftrue, ffalse}
use denote.RawPtr.{Ptr, block_ptr, null_ptr}
use mir.Syntax.{Ty}

-- the right to free a block of the C library's heap, which is the same for each value of Global
abbrev pub may_free : Ty → Ptr → Fml
may_free = let heap : Global = record { memory = record { seal = tt } } in ghosts.dealloc_token heap

-- what a closed handle owns: it is null
abbrev pub nothing_at : Ptr → Fml
nothing_at null_ptr = ftrue
nothing_at (block_ptr b o) = ffalse

-- what a handle owns: an open one has the box at its pointer
abbrev pub held : Ptr → Option Session → Fml
held p None = nothing_at p
held p (Some session) = box_owns may_free the_row p session

-- the handle is open, with the node that the options ask for, before it is asked anything
abbrev pub Opened : List ℕ → Option Session → Type 0
Opened options None = ⊥
Opened options (Some session) = (node : NodeWords) × (form_of (option_words options) ≡ Some (form.Node node)) × IsBehind session node.founding node.name [] None

-- the handle was open and is, and this is so of its session before and now
abbrev pub Between : Option Session → Option Session → (Session → Session → Type 0) → Type 0
Between (Some old) (Some new) holds = holds old new
Between _ _ holds = ⊥
