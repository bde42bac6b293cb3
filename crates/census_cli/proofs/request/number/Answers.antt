use Rattle.std.proofs.Common.{◌≡◌, sym, ◌∙◌, arith}
use Rattle.std.specs.Str.Parse.{digits_value, without_leading_plus}
use Rattle.census_cli.proofs.Getters.{number_is, number_read, some_is}
use Rattle.census_cli.proofs.request.number.Goals as goal

pub unwrap-requires : goal.unwrap-requires
unwrap-requires c = some_is c.get_one.result _ (number_read c.args.matches.now c.args.id.now c.get_one.result c.get_one.ensures.value 0 4294967295 c.requires)

pub overflow_cast-result : goal.overflow_cast-result
overflow_cast-result c =
    let read = number_read c.args.matches.now c.args.id.now c.get_one.result c.get_one.ensures.value 0 4294967295 c.requires in
    let same : c.unwrap.result ≡ digits_value 10 (without_leading_plus c.requires.0) = let e = sym c.unwrap.ensures ∙ read in cc in
    omega (arith, same, c.requires.2.3)

pub returns : goal.returns
returns c =
    let read = number_read c.args.matches.now c.args.id.now c.get_one.result c.get_one.ensures.value 0 4294967295 c.requires in
    number_is 0 4294967295 c.args.id.now _ c.requires ∙ sym read ∙ c.unwrap.ensures
