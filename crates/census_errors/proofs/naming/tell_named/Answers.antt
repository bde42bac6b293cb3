use Rattle.std.proofs.Common.{◌++◌, codes, option_map}
use Rattle.census_errors.proofs.Telling.{more_after}
use Rattle.census_errors.specs.Files.{file_named}
use Rattle.census_errors.proofs.naming.tell_named.Goals as goal

pub returns : goal.returns
returns g c =
    let words = c.tell_wrong.ensures in
    let more = c.say_if.ensures in
    let file = file_named (option_map (λ s. s.now) c.args.file) in
    let at = c.args.errors.now.stream in
    let named = more_after (codes "census: ") file at c.tell.new.self.stream c.tell_file.new.errors.stream c.tell.ensures c.tell_file.ensures in
    let told = more_after (codes "census: " ++ file) words.words at c.tell_file.new.errors.stream c.tell_wrong.new.errors.stream named words.told in
    let line = more_after (codes "census: " ++ file ++ words.words) (codes "\n") at c.tell_wrong.new.errors.stream c.tell-2.new.self.stream told c.tell-2.ensures in
    record {
      words = words.words;
      wrong = words.wrong;
      lines = more.lines;
      explained = more.explained;
      told = more_after (codes "census: " ++ file ++ words.words ++ codes "\n") more.lines at c.tell-2.new.self.stream c.say_if.new.errors.stream line more.told;
    }
