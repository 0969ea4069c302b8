-- Codes, by which a proof tells values apart: what a core's Value needs.
use Rattle.std.specs.Prelude.{◌≡◌, ℕ, zero, suc, List, Option, refl}
use Rattle.std.specs.Coded.{Coded, code_by, coded×, coded_ℕ, coded_list, coded_option}
use Rattle.disk_model.specs.declared.change.NamedFile.{NamedFile}
use Rattle.machine_model.specs.States.{State, state_code}
use Rattle.kernel_model.specs.World.{BootProgram, Boot}
use Rattle.kernel_model.specs.Answers.{Kernel, Lending}
use Rattle.kernel_model.specs.declared.event.Event.{Event}
use Rattle.kernel_model.specs.declared.event.Event.TheVariants.{Turn, Enter, Cut, Complete, Fail}

-- an event as its kind and two numbers
abbrev pub parts_of_event : Event → ℕ × (ℕ × ℕ)
parts_of_event (Turn pid n) = (0, (pid, n))
parts_of_event (Enter pid) = (1, (pid, 0))
parts_of_event Cut = (2, (0, 0))
parts_of_event (Complete at) = (3, (at, 0))
parts_of_event (Fail at) = (4, (at, 0))

-- the event of a kind and two numbers
abbrev pub event_of_parts : ℕ → ℕ → ℕ → Event
event_of_parts zero a b = Turn a b
event_of_parts (suc zero) a b = Enter a
event_of_parts (suc (suc zero)) a b = Cut
event_of_parts (suc (suc (suc zero))) a b = Complete a
event_of_parts (suc (suc (suc (suc kind)))) a b = Fail a

-- the parts of an event give it back
abbrev pub event_again : (e : Event) → event_of_parts (parts_of_event e).0 (parts_of_event e).1.0 (parts_of_event e).1.1 ≡ e
event_again (Turn pid n) = refl
event_again (Enter pid) = refl
event_again Cut = refl
event_again (Complete at) = refl
event_again (Fail at) = refl

-- the code of events
abbrev pub event_code : Coded Event
event_code = code_by (ℕ × (ℕ × ℕ)) (coded× coded_ℕ (coded× coded_ℕ coded_ℕ)) parts_of_event (λ p. event_of_parts p.0 p.1.0 p.1.1) event_again

-- the code of files, as the pair of their fields
abbrev pub file_code : Coded NamedFile
file_code = code_by (List ℕ × List ℕ) (coded× (coded_list coded_ℕ) (coded_list coded_ℕ)) (λ f. (f.name, f.bytes)) (λ p. record { name = p.0; bytes = p.1 }) (λ _. refl)

-- the code of programs to be booted, as the pair of their fields
abbrev pub program_code : Coded BootProgram
program_code = code_by (State × ℕ) (coded× state_code coded_ℕ) (λ b. (b.state, b.terminal)) (λ p. record { state = p.0; terminal = p.1 }) (λ _. refl)

-- the code of what a core is booted from, as the tuple of its fields
abbrev pub boot_code : Coded Boot
boot_code = code_by (List BootProgram × (List (List ℕ) × (List NamedFile × (List ℕ × ℕ))))
    (coded× (coded_list program_code) (coded× (coded_list (coded_list coded_ℕ)) (coded× (coded_list file_code) (coded× (coded_list coded_ℕ) coded_ℕ))))
    (λ b. (b.programs, (b.tapes, (b.files, (b.disk, b.gate)))))
    (λ p. record { programs = p.0; tapes = p.1.0; files = p.1.1.0; disk = p.1.1.1.0; gate = p.1.1.1.1 })
    (λ _. refl)

-- the code of how a process stands with its loans, as the pair of its fields
abbrev pub lending_code : Coded Lending
lending_code = code_by (ℕ × Option ℕ) (coded× coded_ℕ (coded_option coded_ℕ)) (λ l. (l.loans, l.out)) (λ p. record { loans = p.0; out = p.1 }) (λ _. refl)

-- the code of a core's Value, as the tuple of its fields
abbrev pub kernel_code : Coded Kernel
kernel_code = code_by (Boot × (List Event × (List Lending × ℕ))) (coded× boot_code (coded× (coded_list event_code) (coded× (coded_list lending_code) coded_ℕ))) (λ k. (k.boot, (k.history, (k.lendings, k.last_lent)))) (λ p. record { boot = p.0; history = p.1.0; lendings = p.1.1.0; last_lent = p.1.1.1 }) (λ _. refl)
