-- How the ending of a stream is told in the texts of several streams.
use Rattle.std.specs.Prelude.{ℕ, List, ◌++◌, codes, decimal}
use Rattle.eb_text.specs.Lines.{rule_text}
use Rattle.eb_server.specs.declared.ending.Ending.{Ending}
use Rattle.eb_server.specs.declared.ending.Ending.TheVariants as ending

-- An ending: a place counts from the stream's first octet as 0; an item that was cut tells how many of its octets came.
abbrev pub end_text : Ending → List ℕ
end_text ending.Clean = codes "clean"
end_text (ending.Truncated n) = codes "truncated " ++ decimal n
end_text (ending.Malformed place why) = codes "malformed " ++ decimal place ++ codes " " ++ rule_text why
end_text ending.ReadFault = codes "read fault"
end_text ending.WriteFault = codes "write fault"
end_text ending.TooLong = codes "too long"
end_text ending.NoMemory = codes "memory"
