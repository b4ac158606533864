-- Stores and sinks in memory that fail at chosen calls.
use Rattle.std.specs.Prelude.{◌≡◌, ℕ, ◌+◌, ◌-◌, ◌^◌, min, List, refl}
use Rattle.std.specs.List.{Contains}
use Rattle.std.specs.Coded.{Coded, code_by, coded×, coded_ℕ, coded_list}
use Rattle.surgeon_store.specs.Memory.{FilesInMemory, memory_code, store_of, output_of}
use Rattle.surgeon_store.specs.Outside.{StoreState, SinkState}

-- how many calls were counted, and the numbers of those that fail
pub record Calls : Type 0 where
  pub count : ℕ
  pub failing : List ℕ

-- no call was counted
abbrev pub uncalled : List ℕ → Calls
uncalled failing = record { count = 0; failing = failing }

-- one more call is counted, but no further than 2^64 - 1
pub record Counts (old new : Calls) : Type 0 where
  pub count : new.count ≡ min (old.count + 1) (2 ^ 64 - 1)
  pub failing : new.failing ≡ old.failing

-- the call that was counted last is one that fails
abbrev pub IsFailing : Calls → Type 0
IsFailing calls = Contains calls.failing calls.count

pub record FailingFiles : Type 0 where
  pub memory : FilesInMemory
  pub calls : Calls
  pub read_faults : ℕ
  pub write_faults : ℕ

pub record FailingBytes : Type 0 where
  pub bytes : List ℕ
  pub calls : Calls
  pub faults : ℕ

abbrev pub failing_store_of : FailingFiles → StoreState
failing_store_of store = store_of store.memory store.read_faults store.write_faults

abbrev pub failing_sink_of : FailingBytes → SinkState
failing_sink_of sink = output_of sink.bytes sink.faults

-- ---- how they are stored: as the tuples of their fields

abbrev pub calls_code : Coded Calls
calls_code = code_by (ℕ × List ℕ) (coded× coded_ℕ (coded_list coded_ℕ)) (λ c. (c.count, c.failing)) (λ p. record { count = p.0; failing = p.1 }) (λ _. refl)

abbrev pub failing_files_code : Coded FailingFiles
failing_files_code =
    code_by (FilesInMemory × (Calls × (ℕ × ℕ)))
    (coded× memory_code (coded× calls_code (coded× coded_ℕ coded_ℕ)))
    (λ s. (s.memory, (s.calls, (s.read_faults, s.write_faults))))
    (λ p. record { memory = p.0; calls = p.1.0; read_faults = p.1.1.0; write_faults = p.1.1.1 })
    (λ _. refl)

abbrev pub failing_bytes_code : Coded FailingBytes
failing_bytes_code =
    code_by (List ℕ × (Calls × ℕ))
    (coded× (coded_list coded_ℕ) (coded× calls_code coded_ℕ))
    (λ s. (s.bytes, (s.calls, s.faults)))
    (λ p. record { bytes = p.0; calls = p.1.0; faults = p.1.1 })
    (λ _. refl)
