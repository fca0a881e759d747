-- How reading to the end and writing whole count faults.
use Rattle.std.specs.Prelude.{ℕ, Result, Ok, Err}
use Rattle.am_io.specs.declared.whole.ReadRefusal.{ReadRefusal}
use Rattle.am_io.specs.declared.whole.ReadRefusal.TheVariants.{Fault, TooLong, NoMemory}
use Rattle.am_io.specs.Outside.{next}

-- one more exactly where a read failed
abbrev pub faults_of_reading : {A : Type 0} → Result A ReadRefusal → ℕ → ℕ
faults_of_reading (Ok bytes) before = before
faults_of_reading (Err Fault) before = next before
faults_of_reading (Err TooLong) before = before
faults_of_reading (Err NoMemory) before = before

-- one more exactly where a write failed
abbrev pub faults_of_writing : {A E : Type 0} → Result A E → ℕ → ℕ
faults_of_writing (Ok all) before = before
faults_of_writing (Err fault) before = next before
