-- A worked example.
use Rattle.std.proofs.Common.{◌≡◌, [], ◌∷◌, pos, refl}
use Rattle.std.specs.Prelude.{codes}
use Rattle.std.specs.Fmt.{digits}
use Rattle.hex.specs.Hex.{encode_with}
use Rattle.ws_flow.specs.declared.plan.Stage.TheVariants.{Lines, Mask, Number}
use Rattle.ws_flow.specs.declared.refusal.Refusal.TheVariants.{WrongKey, OtherVersion, UnknownKind}
use Rattle.std.specs.Prelude.{None, Ok, Err}
use Rattle.hex.specs.Hex.{decode_pairs}
use Rattle.toml.specs.Data.{string, integer, array, table, no_items, item, no_members, member}
use Rattle.ws_plan.specs.Reading.{planned}
use Rattle.ws_plan.specs.PlanText.{stage_lines}

numbered_lines : stage_lines 1 (record { stage = Lines (pos 65536); worker = pos 1 } ∷ record { stage = Number; worker = pos 2 } ∷ []) ≡ codes "stage 1 lines 65536 worker 1\nstage 2 number worker 2\n"
unfolding digits
numbered_lines = refl

masked : stage_lines 1 (record { stage = Mask (1 ∷ 171 ∷ []); worker = pos 0 } ∷ []) ≡ codes "stage 1 mask 01ab worker 0\n"
unfolding digits encode_with
masked = refl

-- tables of pipeline files
lines_and_number : planned (member (codes "stage") (array (item (table (member (codes "kind") (string (codes "lines")) no_members)) (item (table (member (codes "kind") (string (codes "number")) (member (codes "worker") (integer (pos 2)) no_members))) no_items))) (member (codes "version") (integer (pos 1)) (member (codes "workers") (integer (pos 2)) no_members)))
    ≡ Ok (record { workers = pos 2; abort_after = None; max_input = pos 1099511627776; stages = record { stage = Lines (pos 65536); worker = pos 1 } ∷ record { stage = Number; worker = pos 2 } ∷ [] })
lines_and_number = refl

no_version : planned no_members ≡ Err WrongKey
no_version = refl

version_3 : planned (member (codes "foo") (integer (pos 1)) (member (codes "version") (integer (pos 3)) no_members)) ≡ Err OtherVersion
version_3 = refl

unknown_key : planned (member (codes "foo") (integer (pos 1)) (member (codes "version") (integer (pos 1)) no_members)) ≡ Err WrongKey
unknown_key = refl

unknown_kind : planned (member (codes "stage") (array (item (table (member (codes "foo") (integer (pos 1)) (member (codes "kind") (string (codes "sort")) no_members))) no_items)) (member (codes "version") (integer (pos 1)) no_members)) ≡ Err UnknownKind
unknown_kind = refl

half_a_key : planned (member (codes "stage") (array (item (table (member (codes "key") (string (codes "0")) (member (codes "kind") (string (codes "mask")) no_members))) no_items)) (member (codes "version") (integer (pos 1)) no_members)) ≡ Err WrongKey
unfolding decode_pairs
half_a_key = refl

empty_key : planned (member (codes "stage") (array (item (table (member (codes "key") (string []) (member (codes "kind") (string (codes "mask")) no_members))) no_items)) (member (codes "version") (integer (pos 1)) no_members)) ≡ Ok (record { workers = pos 0; abort_after = None; max_input = pos 1099511627776; stages = record { stage = Mask []; worker = pos 0 } ∷ [] })
unfolding decode_pairs
empty_key = refl
