-- The block of a text that has a fault.
use Rattle.std.proofs.Common.{◌≡◌, ℕ, List, Option, Some, Result, Ok, Err, ap, sym}
use Rattle.life_text.specs.declared.rle.RleFault.{RleFault}
use Rattle.life_text.specs.Picture.{picture_of}
use Rattle.life_text.specs.Rle.{Meaning, fault_of, reading, refusal}
use Rattle.census_facts.specs.Names.{Entry}
use Rattle.census_identify.specs.Blocks.Blocks.{block_of, block_or_fault}
use Rattle.census_identify.specs.declared.blocks.inquiry.Inquiry.{Inquiry}

no_picture : (read : Result Meaning RleFault) (fault : RleFault) → fault_of read ≡ Some fault → picture_of read ≡ Err fault
no_picture (Ok meaning) fault is = absurd (cc)
no_picture (Err other) fault is =
    let same : other ≡ fault = cc in
    ap Err same

pub told_block : (inquiry : Inquiry) (names : List Entry) (file : Option (List ℕ)) (text : List ℕ) (fault : RleFault) → refusal text ≡ Some fault
    → Err fault ≡ block_of inquiry names file text
unfolding block_of
told_block inquiry names file text fault is = ap (block_or_fault inquiry names file) (sym (no_picture (reading text) fault is))
