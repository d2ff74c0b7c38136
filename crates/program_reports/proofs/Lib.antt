mod ReportedLines
