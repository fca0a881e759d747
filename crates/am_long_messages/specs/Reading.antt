-- What stands in a body, as the definitions have it.
use Rattle.am_long_messages.specs.declared.parts.PartRef.{PartRef}
use Rattle.am_service_defs.specs.Parts.{Part}

-- a part where it stands
abbrev pub part_read : PartRef → Part
part_read p = record { index = p.index; count = p.count; payload = p.payload.now }
