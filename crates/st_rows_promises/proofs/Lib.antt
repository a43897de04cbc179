mod Pages
mod WorldLogs
